-- Which stages have one refusal, and none beside a value, where the files are told.
use Rattle.std.proofs.Common.{◌≡◌, inl, inr, ℕ, Bool, true, false, ◌<◌, ◌≤◌, List, length, Option, Some, None, sym, ◌∙◌, ap, subst, arith}
use Rattle.std.specs.Prelude.{unwrap_or, IsSomeAnd}
use Rattle.probe_io.specs.Files.{File, IsFile, file_of}
use Rattle.command_base.specs.declared.endings.Which.{Which}
use Rattle.command_base.specs.Stages.{Stage, then, just, refused, file, layer, spelled}
use Rattle.command_base.specs.Jobs.{Texts, Job, job, choose, refusing}
use Rattle.command_base.specs.Exact.{AreAlike, IsExact}

-- what stands in two equal options
one_some : {A : Type 0} {a b : A} → Some a ≡ Some b → a ≡ b
one_some {a = a} same = ap (λ o. unwrap_or o a) same

-- a job is exact where its stage is
pub exact_job : {R A : Type 0} {stage : Stage R A} {texts : Texts A} {files : List File} → AreAlike stage stage files → IsExact (job stage texts) files
exact_job alike = record {
  one = alike.one;
  apart = λ r ending text cause report. alike.apart report.value r report.given cause;
  begun_apart = λ r text cause begun. alike.apart begun.value r begun.given cause;
}

-- ---- two stages, one after the other

module _ {R A B C D : Type 0} {s : Stage R A} {t : Stage R C} {next : A → Stage R B} {next' : C → Stage R D} {files : List File} where
  one_then : AreAlike s t files → ((a : A) (c : C) → s.gives (Some files) a → t.gives (Some files) c → AreAlike (next a) (next' c) files)
      → (r q : R) → (then s next).refuses (Some files) r → (then t next').refuses (Some files) q → r ≡ q
  one_then first later r q (inl here) (inl there) = first.one r q here there
  one_then first later r q (inl here) (inr there) = absurd (first.apart' there.value r there.given here)
  one_then first later r q (inr here) (inl there) = absurd (first.apart here.value q here.given there)
  one_then first later r q (inr here) (inr there) = (later here.value there.value here.given there.given).one r q here.holds there.holds

  apart_then : AreAlike s t files → ((a : A) (c : C) → s.gives (Some files) a → t.gives (Some files) c → AreAlike (next a) (next' c) files)
      → (b : B) (r : R) → (then s next).gives (Some files) b → (then t next').refuses (Some files) r → ⊥
  apart_then first later b r given (inl there) = first.apart given.value r given.given there
  apart_then first later b r given (inr there) = (later given.value there.value given.given there.given).apart b r given.holds there.holds

  apart'_then : AreAlike s t files → ((a : A) (c : C) → s.gives (Some files) a → t.gives (Some files) c → AreAlike (next a) (next' c) files)
      → (d : D) (r : R) → (then t next').gives (Some files) d → (then s next).refuses (Some files) r → ⊥
  apart'_then first later d r given (inl here) = first.apart' given.value r given.given here
  apart'_then first later d r given (inr here) = (later here.value given.value here.given given.given).apart' d r given.holds here.holds

  -- stages are alike where their first parts are, and their second parts on whatever these give
  pub then_alike : AreAlike s t files → ((a : A) (c : C) → s.gives (Some files) a → t.gives (Some files) c → AreAlike (next a) (next' c) files) → AreAlike (then s next) (then t next') files
  then_alike first later = record { one = one_then first later; apart = apart_then first later; apart' = apart'_then first later }

-- the same where the first part gives one value at most
pub then_exact : {R A B : Type 0} {s : Stage R A} {next : A → Stage R B} {files : List File} → AreAlike s s files
    → ((a b : A) → s.gives (Some files) a → s.gives (Some files) b → a ≡ b) → ((a : A) → s.gives (Some files) a → AreAlike (next a) (next a) files)
    → AreAlike (then s next) (then s next) files
then_exact {next = next} {files = files} first one later =
    then_alike first (λ a b given given'. subst (λ x. AreAlike (next a) (next x) files) (one a b given given') (later a given))

-- ---- single stages

pub just_alike : {R A B : Type 0} {a : A} {b : B} {files : List File} → AreAlike (just {R = R} a) (just {R = R} b) files
just_alike = record { one = λ r q here there. absurd here; apart = λ a r given there. there; apart' = λ b r given there. there }

pub refused_alike : {R A B : Type 0} {r : R} {files : List File} → AreAlike (refused {A = A} r) (refused {A = B} r) files
refused_alike = record { one = λ r q here there. here ∙ sym there; apart = λ a r given there. given; apart' = λ b r given there. given }

-- one of two exact jobs
pub chosen_exact : {R : Type 0} (which : Bool) (a b : Job R) (files : List File) → IsExact a files → IsExact b files → IsExact (choose which a b) files
chosen_exact true a b files exact other = exact
chosen_exact false a b files other exact = exact

pub refusing_exact : {R : Type 0} {refusal : R} {files : List File} → IsExact (refusing refusal) files
refusing_exact = exact_job refused_alike

-- a word that spells one value at most
pub spelled_alike : {R A : Type 0} {spells : A → Type 0} {bad : R} {files : List File} → AreAlike (spelled spells bad) (spelled spells bad) files
spelled_alike = record {
  one = λ r q here there. here.0 ∙ sym there.0;
  apart = λ a r given there. there.1 a given;
  apart' = λ a r given there. there.1 a given;
}

-- layers that have one carried fault between them, and none where the other accepts
pub layers_alike : {R L A : Type 0} {carry : L → Option R} {accepts accepts' : A → Type 0} {faults faults' : L → Type 0} {files : List File}
    → ((l m : L) (r q : R) → carry l ≡ Some r → carry m ≡ Some q → faults l → faults' m → l ≡ m)
    → ((a : A) (l : L) (r : R) → carry l ≡ Some r → accepts a → faults' l → ⊥) → ((a : A) (l : L) (r : R) → carry l ≡ Some r → accepts' a → faults l → ⊥)
    → AreAlike (layer carry accepts faults) (layer carry accepts' faults') files
layers_alike {carry = carry} one apart apart' = record {
  one = λ r q here there. one_some (sym here.holds ∙ ap carry (one here.value there.value r q here.holds there.holds here.given there.given) ∙ there.holds);
  apart = λ a r given there. apart a there.value r there.holds given there.given;
  apart' = λ a r given there. apart' a there.value r there.holds given there.given;
}

-- a layer that has one fault at most, and none where it accepts
pub layer_alike : {R L A : Type 0} {carry : L → Option R} {accepts : A → Type 0} {faults : L → Type 0} {files : List File}
    → ((l m : L) → faults l → faults m → l ≡ m) → ((a : A) (l : L) → accepts a → faults l → ⊥) → AreAlike (layer carry accepts faults) (layer carry accepts faults) files
layer_alike one apart = layers_alike (λ l m r q is is'. one l m) (λ a l r is. apart a l) (λ a l r is. apart a l)

-- ---- files

-- a file has one text
pub one_file : (files : List File) (called : List ℕ) {limit : ℕ} (a b : List ℕ) → IsFile (Some files) called a × (length a ≤ limit) → IsFile (Some files) called b × (length b ≤ limit) → a ≡ b
one_file files called a b given given' = one_some (sym given.0 ∙ given'.0)

not_over : (text : Option (List ℕ)) (bytes : List ℕ) (limit : ℕ) → text ≡ Some bytes → length bytes ≤ limit → IsSomeAnd text (λ bytes. limit < length bytes) → ⊥
not_over (Some text) bytes limit is few over = absurd (omega (arith, few, over, ap length (one_some is)))
not_over None bytes limit is few over = over

pub file_alike : {R : Type 0} {kind : Which} {called : List ℕ} {limit : ℕ} {bad : R} {files : List File}
    → AreAlike (file kind called limit bad) (file kind called limit bad) files
file_alike {called = called} {limit = limit} {files = files} = record {
  one = λ r q here there. here.0 ∙ sym there.0;
  apart = λ a r given there. not_over (file_of files called) a limit given.0 given.1 there.1;
  apart' = λ a r given there. not_over (file_of files called) a limit given.0 given.1 there.1;
}
