-- The names of layers, labels and supplies.
use Rattle.std.specs.Prelude.{◌≡◌, ℕ, ◌-◌, Bool, true, false, not, ◌&&◌, ◌||◌, ◌==◌, List, [], ◌∷◌, ◌++◌, length, take, replicate, nat_le}
use Rattle.std.specs.List.{list_all}
use Rattle.std.proofs.Common.{ap, sym, ◌∙◌}
use Rattle.std.specs.Char.{is_ascii_digit, is_ascii_uppercase}

abbrev pub is_short_byte : ℕ → Bool
is_short_byte b = is_ascii_digit b || is_ascii_uppercase b

-- The name of a layer: one to four digits or upper-case letters.
abbrev pub is_short : List ℕ → Bool
is_short name = nat_le 1 (length name) && nat_le (length name) 4 && list_all is_short_byte name

-- The first so many of the four bytes are a name, and the others are zero.
pub record IsPadded (len : ℕ) (bytes : List ℕ) : Type 0 where
  pub named : length (take len bytes) ≡ len
  pub padded : bytes ≡ take len bytes ++ replicate (4 - len) 0
  pub short : is_short (take len bytes) ≡ true

-- The name gives its four bytes back.
pub padded_back : (len : ℕ) (bytes : List ℕ) → IsPadded len bytes → take len bytes ++ replicate (4 - length (take len bytes)) 0 ≡ bytes
padded_back len bytes h = ap (λ n. take len bytes ++ replicate (4 - n) 0) h.named ∙ sym h.padded

-- a byte of the name of a label or a supply: from `!` to `~`, but no `;`
abbrev pub is_name_byte : ℕ → Bool
is_name_byte b = nat_le 33 b && nat_le b 126 && not (b == 59)

-- The name of a label or a supply: 1 to 64 such bytes, and no `#` first.
abbrev pub is_name : List ℕ → Bool
is_name [] = false
is_name (b ∷ bs) = not (b == 35) && nat_le (length (b ∷ bs)) 64 && list_all is_name_byte (b ∷ bs)
