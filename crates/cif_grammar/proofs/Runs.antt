-- The first bytes that pass a test, and what stands behind them.
use Rattle.std.proofs.Common.{◌≡◌, ℕ, suc, Bool, true, false, List, [], ◌∷◌, ◌++◌, length, take, drop, refl, sym, ap, ◌∙◌, one-add}
use Rattle.std.specs.List.{prefix_len, list_all}
use Rattle.std.proofs.lemmas.Bool.{and_parts, and_from}
use Rattle.cif_grammar.specs.Words.{skip}

-- whether a first byte stands there and passes the test
abbrev pub begins : (ℕ → Bool) → List ℕ → Bool
begins test [] = false
begins test (b ∷ bs) = test b

pub len_yes : (test : ℕ → Bool) (b : ℕ) (bs : List ℕ) → test b ≡ true → prefix_len test (b ∷ bs) ≡ suc (prefix_len test bs)
len_yes test b bs e = rw e (one-add (prefix_len test bs))

pub len_no : (test : ℕ → Bool) (b : ℕ) (bs : List ℕ) → test b ≡ false → prefix_len test (b ∷ bs) ≡ 0
len_no test b bs e = rw e refl

-- the parts of a list before and behind the first byte that fails the test
pub record Parted (test : ℕ → Bool) (bytes : List ℕ) : Type 0 where
  pub run : List ℕ
  pub passes : list_all test run ≡ true
  pub whole : bytes ≡ run ++ skip test bytes
  pub stops : begins test (skip test bytes) ≡ false
  pub taken : take (prefix_len test bytes) bytes ≡ run
  pub size : prefix_len test bytes ≡ length run

parted_case : (test : ℕ → Bool) (b : ℕ) (bs : List ℕ) (t : Bool) → test b ≡ t → Parted test bs → Parted test (b ∷ bs)
parted_case test b bs true e p =
    let more = len_yes test b bs e in
    let back : skip test (b ∷ bs) ≡ skip test bs = ap (λ n. drop n (b ∷ bs)) more in
    record {
      run = b ∷ p.run;
      passes = and_from _ _ e p.passes;
      whole = ap (λ s. b ∷ s) p.whole ∙ ap (λ s. b ∷ (p.run ++ s)) (sym back);
      stops = ap (begins test) back ∙ p.stops;
      taken = ap (λ n. take n (b ∷ bs)) more ∙ ap (λ s. b ∷ s) p.taken;
      size = more ∙ ap (λ n. suc n) p.size;
    }
parted_case test b bs false e p =
    let none = len_no test b bs e in
    let back : skip test (b ∷ bs) ≡ b ∷ bs = ap (λ n. drop n (b ∷ bs)) none in
    record {
      run = [];
      passes = refl;
      whole = sym back;
      stops = ap (begins test) back ∙ e;
      taken = ap (λ n. take n (b ∷ bs)) none;
      size = none;
    }

pub parted : (test : ℕ → Bool) (bytes : List ℕ) → Parted test bytes
parted test [] = record { run = []; passes = refl; whole = refl; stops = refl; taken = refl; size = refl }
parted test (b ∷ bs) = parted_case test b bs (test b) refl (parted test bs)

pub skip_stays : (test : ℕ → Bool) (bytes : List ℕ) → begins test bytes ≡ false → skip test bytes ≡ bytes
skip_stays test [] h = refl
skip_stays test (b ∷ bs) h = ap (λ n. drop n (b ∷ bs)) (len_no test b bs h)

pub skip_over : (test : ℕ → Bool) (run rest : List ℕ) → list_all test run ≡ true → skip test (run ++ rest) ≡ skip test rest
skip_over test [] rest h = refl
skip_over test (b ∷ run) rest h =
    let parts = and_parts (test b) (list_all test run) h in
    ap (λ n. drop n (b ∷ (run ++ rest))) (len_yes test b (run ++ rest) parts.0) ∙ skip_over test run rest parts.1

-- A run is skipped up to the first byte that fails.
pub skip_run : (test : ℕ → Bool) (run rest : List ℕ) → list_all test run ≡ true → begins test rest ≡ false → skip test (run ++ rest) ≡ rest
skip_run test run rest h stop = skip_over test run rest h ∙ skip_stays test rest stop

pub len_run : (test : ℕ → Bool) (run rest : List ℕ) → list_all test run ≡ true → begins test rest ≡ false → prefix_len test (run ++ rest) ≡ length run
len_run test [] [] h stop = refl
len_run test [] (b ∷ bs) h stop = len_no test b bs stop
len_run test (b ∷ run) rest h stop =
    let parts = and_parts (test b) (list_all test run) h in
    len_yes test b (run ++ rest) parts.0 ∙ ap (λ n. suc n) (len_run test run rest parts.1 stop)

pub take_run : (run rest : List ℕ) → take (length run) (run ++ rest) ≡ run
take_run [] rest = refl
take_run (b ∷ run) rest = ap (λ s. b ∷ s) (take_run run rest)

pub drop_run : (run rest : List ℕ) → drop (length run) (run ++ rest) ≡ rest
drop_run [] rest = refl
drop_run (b ∷ run) rest = drop_run run rest
