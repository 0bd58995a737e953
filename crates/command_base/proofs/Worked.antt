-- Stages, jobs and devices of plain values, worked out.
use Rattle.std.proofs.Common.{◌≡◌, ℕ, suc, inl, inr, Bool, true, false, List, [], ◌∷◌, Some, None, refl, arith}
use Rattle.std.specs.Prelude.{codes}
use Rattle.probe_io.specs.Devices.{SinkState, IsPut, IsCut}
use Rattle.command_base.specs.declared.endings.Which.TheVariants.{Cif}
use Rattle.command_base.specs.declared.endings.Stream.TheVariants.{Out}
use Rattle.command_base.specs.declared.endings.Ending.TheVariants.{Whole, Undecided, No}
use Rattle.command_base.specs.declared.endings.AnyStatus.TheVariants.{Done, DoneUndecided, DoneNo, Refused, OpenFault, WriteFault, NoMemory}
use Rattle.command_base.specs.Stages.{Stage, then, just, refused}
use Rattle.command_base.specs.Jobs.{Job, job, fixed}
use Rattle.command_base.specs.Answers.{done_of, exit_of, open_fault_line}

-- ---- stages

-- a stage that gives 2, and after it one that gives the next number
abbrev counted : Stage ℕ ℕ
counted = then (just 2) (λ n. just (suc n))

gives_3 : counted.gives None 3
gives_3 = record { value = 2; given = refl; holds = refl }

gives_no_2 : counted.gives None 2 → ⊥
gives_no_2 given = let first = given.given in let next = given.holds in omega (arith, first, next)

-- the first of two refusals counts
abbrev turned_down : Stage ℕ ℕ
turned_down = then (refused 7) (λ (n : ℕ). refused 8)

refuses_7 : turned_down.refuses None 7
refuses_7 = inl refl

refuses_no_8 : turned_down.refuses None 8 → ⊥
refuses_no_8 (inl is) = omega (arith, is)
refuses_no_8 (inr next) = next.given

-- ---- jobs

-- the report of a job that writes one text on what its stage gives
abbrev one_text : Job ℕ
one_text = job counted (fixed (λ n. Whole) (λ n. n ∷ []))

its_report : one_text.report None Whole (3 ∷ [])
its_report = record { value = 3; given = gives_3; holds = (refl, refl) }

-- ---- statuses

ends_whole : exit_of (λ (r : ℕ). r) (done_of Whole) ≡ 0
ends_whole = refl

ends_undecided : exit_of (λ (r : ℕ). r) (done_of Undecided) ≡ 1
ends_undecided = refl

ends_no : exit_of (λ (r : ℕ). r) (done_of No) ≡ 1
ends_no = refl

ends_refused : exit_of (λ (r : ℕ). r) (Refused 3) ≡ 3
ends_refused = refl

ends_unopened : exit_of (λ (r : ℕ). r) (OpenFault Cif) ≡ 4
ends_unopened = refl

ends_unwritten : exit_of (λ (r : ℕ). r) (WriteFault Out) ≡ 5
ends_unwritten = refl

ends_out_of_memory : exit_of (λ (r : ℕ). r) NoMemory ≡ 6
ends_out_of_memory = refl

a_fault_line : open_fault_line Cif ≡ codes "carafe: OpenFault cif\n"
a_fault_line = refl

-- ---- sinks

-- a sink with this text and this count of faults
abbrev sink : Bool → List ℕ → ℕ → SinkState
sink strict written faults = record { strict = strict; written = Some written; faults = faults }

-- a strict sink counts no fault where a text was written whole
put_quiet : IsPut (2 ∷ []) (sink true (1 ∷ []) 5) (sink true (1 ∷ 2 ∷ []) 5)
put_quiet = record { written = record { told = refl }; quiet = record { later = omega arith; quiet = λ strict. refl } }

put_no_fault : IsPut (2 ∷ []) (sink true (1 ∷ []) 5) (sink true (1 ∷ 2 ∷ []) 6) → ⊥
put_no_fault put = let same = put.quiet.quiet refl in omega (arith, same)

-- one that mends a failed write counts it
put_mended : IsPut (2 ∷ []) (sink false (1 ∷ []) 5) (sink false (1 ∷ 2 ∷ []) 6)
put_mended = record { written = record { told = refl }; quiet = record { later = omega arith; quiet = λ strict. let none : ⊥ = cc in absurd none } }

-- after a failed write a prefix stands there
cut_short : IsCut (2 ∷ 3 ∷ []) (sink true (1 ∷ []) 5) (sink true (1 ∷ 2 ∷ []) 6)
cut_short = record { written = record { sent = 2 ∷ []; rest = 3 ∷ []; whole = refl; front = record { told = refl } }; failed = inl (omega arith) }
