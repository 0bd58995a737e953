-- The definitions of devices on small cases.
use Rattle.std.proofs.Common.{◌≡◌, ℕ, ◌-◌, ◌^◌, List, [], ◌∷◌, ◌++◌, None, Some, Ok, Err, inl, inr, true, false, get_or, unwrap_or, refl, sym, ◌∙◌, ap, arith}
use Rattle.probe_io.specs.Causes.{Rose, HasCause, counted}
use Rattle.probe_io.specs.Files.{File, file_of, IsFile, Holds, Lacks, IsFileOver, HoldsOver, left_in, left_at, moved_on}
use Rattle.probe_io.specs.Plan.{FaultPlanView, is_failing, after_call}
use Rattle.probe_io.specs.Written.{Appends, AppendsFront}

-- ---- counts

risen : Rose 3 4
risen = inl (omega arith)

-- a count that stands at its last number may have been raised
at_last : Rose (2 ^ 64 - 1) (2 ^ 64 - 1)
at_last = inr refl

not_risen : Rose 4 4 → ⊥
not_risen (inl more) = omega (arith, more)
not_risen (inr last) = omega (arith, last)

raised : HasCause {T = ℕ} {E = ℕ} true 3 4 (Err 0)
raised = record { later = omega arith; failed = risen; quiet = λ strict. tt }

-- an error with no count raised has no cause, and a success raises none
no_cause : HasCause {T = ℕ} {E = ℕ} true 4 4 (Err 0) → ⊥
no_cause cause = not_risen cause.failed

not_quiet : HasCause {T = ℕ} {E = ℕ} true 3 4 (Ok 0) → ⊥
not_quiet cause = omega (arith, cause.quiet refl)

-- a device that is not strict may count a failure, mend it and succeed
mended : HasCause {T = ℕ} {E = ℕ} false 3 4 (Ok 0)
mended = record { later = omega arith; failed = tt; quiet = λ strict. grind (arith, strict) }

one_more : counted 3 ≡ 4
one_more = refl

to_the_last : counted (2 ^ 64 - 2) ≡ 2 ^ 64 - 1
to_the_last = refl

last_stays : counted (2 ^ 64 - 1) ≡ 2 ^ 64 - 1
last_stays = refl

-- a count that jumps to its last number may have risen, but not by one fault
jump_rises : Rose 3 (2 ^ 64 - 1)
jump_rises = inr refl

jump : 2 ^ 64 - 1 ≡ counted 3 → ⊥
jump same = omega (arith, same)

-- ---- files: two of the name 1, and an empty one of the name 2

abbrev files : List File
files = (1 ∷ [], 7 ∷ 8 ∷ 9 ∷ []) ∷ (2 ∷ [], []) ∷ (1 ∷ [], 5 ∷ []) ∷ []

first_counts : file_of files (1 ∷ []) ≡ Some (7 ∷ 8 ∷ 9 ∷ [])
first_counts = refl

empty_file : Holds (Some files) (2 ∷ []) []
empty_file = refl

longer_name : Lacks (Some files) (1 ∷ 1 ∷ [])
longer_name = refl

-- where no files are told, each may be the file, and none is known to be lacking or over a limit
untold : IsFile None (1 ∷ []) (5 ∷ [])
untold = tt

untold_lack : Lacks None (1 ∷ []) → ⊥
untold_lack lacks = lacks

second_of_a_name : IsFile (Some files) (1 ∷ []) (5 ∷ []) → ⊥
second_of_a_name is = let e : 7 ≡ 5 = ap (λ o. get_or (unwrap_or o []) 0 0) is in omega (arith, e)

over : HoldsOver (Some files) (1 ∷ []) 2
over = omega arith

at_the_limit : HoldsOver (Some files) (1 ∷ []) 3 → ⊥
at_the_limit more = omega (arith, more)

untold_over : IsFileOver None (1 ∷ []) 3
untold_over = tt

-- ---- what is left

from_the_second_byte : left_in files (Some (1 ∷ [], 1)) ≡ 8 ∷ 9 ∷ []
from_the_second_byte = refl

at_the_end : left_at (Some files) (Some (1 ∷ [], 3)) ≡ Some []
at_the_end = refl

none_started : left_in files None ≡ []
none_started = refl

two_further : moved_on (Some (1 ∷ [], 1)) 2 ≡ Some (1 ∷ [], 3)
two_further = refl

-- ---- plans: the calls 0 and 2 fail

abbrev plan : ℕ → FaultPlanView
plan next = record { fail_at = 0 ∷ 2 ∷ []; step = 1; next = next }

fails_at_0 : is_failing (plan 0) ≡ true
fails_at_0 = refl

passes_1 : is_failing (plan 1) ≡ false
passes_1 = refl

fails_at_2 : is_failing (plan 2) ≡ true
fails_at_2 = refl

counts_a_call : after_call (plan 1) ≡ plan 2
counts_a_call = refl

stays_at_last : after_call (plan (2 ^ 64 - 1)) ≡ plan (2 ^ 64 - 1)
stays_at_last = refl

-- ---- what was written

appended : Appends (Some (1 ∷ [])) (Some (1 ∷ 2 ∷ [])) (2 ∷ [])
appended = record { told = refl }

-- before the old text instead of behind it
put_before : Appends (Some (1 ∷ [])) (Some (2 ∷ 1 ∷ [])) (2 ∷ []) → ⊥
put_before appends = let e : 2 ≡ 1 = ap (λ l. get_or l 0 0) appends.told in omega (arith, e)

-- a text that is told only afterwards
told_late : Appends None (Some []) [] → ⊥
told_late appends = appends.told

a_front : AppendsFront (Some (1 ∷ [])) (Some (1 ∷ 2 ∷ [])) (2 ∷ 3 ∷ [])
a_front = record { sent = 2 ∷ []; rest = 3 ∷ []; whole = refl; front = appended }

no_front : AppendsFront (Some []) (Some (3 ∷ [])) (2 ∷ 3 ∷ []) → ⊥
no_front front = let e : 2 ≡ 3 = ap (λ l. get_or l 0 0) (front.whole ∙ ap (λ l. l ++ front.rest) (sym front.front.told)) in omega (arith, e)
