-- Symbols under their numbers.
use Rattle.std.proofs.Common.{◌≡◌, ℕ, Bool, true, false, cond, ◌||◌, List, [], ◌∷◌, ◌++◌, refl, sym, ap, subst, ◌∙◌, arith}
use Rattle.std.specs.Prelude.{Option, Some, find, is_some, nat_eq, ◌==◌}
use Rattle.std.specs.List.{list_any}
use Rattle.std.specs.Map.{lookup, values_of}
use Rattle.std.proofs.lemmas.Bool.Decides.{nat_tests}
use Rattle.std.proofs.lemmas.List.{map_push}
use Rattle.std.proofs.lemmas.Bool.{or_parts}
use Rattle.plane_geom.proofs.Lists.{all_push}
use Rattle.indexmap.specs.IndexMap.{insert_entry}
use Rattle.cif_reader.specs.declared.file.Item.{Item}
use Rattle.cif_reader.specs.declared.file.Symbol.{Symbol}
use Rattle.cif_reader.specs.File.{IsFile, AreKeptItems, AreKeptSymbols, AreApart, AreUnderNumbers, IsKeptWhat, has_number}

pub numbered_lookup : (n : ℕ) (es : List (ℕ × Symbol)) → AreUnderNumbers es → lookup (nat_eq n) es ≡ find (has_number n) (values_of es)
numbered_lookup n [] h = refl
numbered_lookup n (e ∷ es) h = ap (λ k. cond (nat_eq n k) (Some e.1) (lookup (nat_eq n) es)) h.0 ∙ ap (cond (n == e.1.number) (Some e.1)) (numbered_lookup n es h.1)

some_case : {X : Type 0} (x : X) (t : Bool) (r : Option X) (rest : Bool) → is_some r ≡ rest → is_some (cond t (Some x) r) ≡ (t || rest)
some_case x true r rest h = refl
some_case x false r rest h = h

pub some_any : {X : Type 0} (t : X → Bool) (xs : List X) → is_some (find t xs) ≡ list_any t xs
some_any t [] = refl
some_any t (x ∷ xs) = some_case x (t x) (find t xs) (list_any t xs) (some_any t xs)

pub insert_new : (n : ℕ) (s : Symbol) (es : List (ℕ × Symbol)) → AreUnderNumbers es → list_any (has_number n) (values_of es) ≡ false → insert_entry nat_eq es n s ≡ es ++ (n, s) ∷ []
insert_new n s [] h a = refl
insert_new n s (e ∷ es) h a =
    let other : nat_eq n e.0 ≡ false = ap (nat_eq n) h.0 ∙ (or_parts (n == e.1.number) (list_any (has_number n) (values_of es)) a).0 in
    ap (λ t. cond t ((e.0, s) ∷ es) (e ∷ insert_entry nat_eq es n s)) other ∙ ap (λ r. e ∷ r) (insert_new n s es h.1 (or_parts (n == e.1.number) (list_any (has_number n) (values_of es)) a).1)

pub kept_push : (items : List Item) (item : Item) → AreKeptItems items → IsKeptWhat item.what → AreKeptItems (items ++ item ∷ [])
kept_push items item h k = all_push (λ (i : Item). IsKeptWhat i.what) items item h k

same_turned : (m n : ℕ) → (m == n) ≡ false → (n == m) ≡ false
same_turned m n h = grind (arith, nat_tests)

any_push : (t : Symbol → Bool) (xs : List Symbol) (s : Symbol) → list_any t xs ≡ false → t s ≡ false → list_any t (xs ++ s ∷ []) ≡ false
any_push t [] s h k = ap (λ b. b || false) k
any_push t (x ∷ xs) s h k = ap (λ b. b || list_any t (xs ++ s ∷ [])) (or_parts (t x) (list_any t xs) h).0 ∙ any_push t xs s (or_parts (t x) (list_any t xs) h).1 k

apart_push : (xs : List Symbol) (s : Symbol) → AreApart xs → list_any (has_number s.number) xs ≡ false → AreApart (xs ++ s ∷ [])
apart_push [] s h a = (refl, tt)
apart_push (x ∷ xs) s h a = (
  any_push (has_number x.number) xs s h.0 (same_turned s.number x.number (or_parts (s.number == x.number) (list_any (has_number s.number) xs) a).0),
  apart_push xs s h.1 (or_parts (s.number == x.number) (list_any (has_number s.number) xs) a).1,
)

-- what a file keeps when a symbol is defined
pub record Defined (before after : List (ℕ × Symbol)) (s : Symbol) (top : List Item) : Type 0 where
  pub numbered : AreUnderNumbers after
  pub is_file : IsFile (record { symbols = values_of after; top = top })
  pub symbols : values_of after ≡ values_of before ++ s ∷ []

pub defined : (before after : List (ℕ × Symbol)) (s : Symbol) (top : List Item) → AreUnderNumbers before → IsFile (record { symbols = values_of before; top = top }) → list_any (has_number s.number) (values_of before) ≡ false → AreKeptItems s.items.items → after ≡ insert_entry nat_eq before s.number s → Defined before after s top
defined before after s top h f a k e =
    let pushed : after ≡ before ++ (s.number, s) ∷ [] = e ∙ insert_new s.number s before h a in
    let symbols : values_of after ≡ values_of before ++ s ∷ [] = ap values_of pushed ∙ map_push (λ (e : ℕ × Symbol). e.1) before (s.number, s) in
    record {
      numbered = subst AreUnderNumbers (sym pushed) (all_push (λ (e : ℕ × Symbol). e.0 ≡ e.1.number) before (s.number, s) h refl);
      is_file = record {
        symbols = subst AreKeptSymbols (sym symbols) (all_push (λ (symbol : Symbol). AreKeptItems symbol.items.items) (values_of before) s f.symbols k);
        top = f.top;
        apart = subst AreApart (sym symbols) (apart_push (values_of before) s f.apart a);
      };
      symbols = symbols;
    }
