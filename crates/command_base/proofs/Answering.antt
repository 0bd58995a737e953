-- What a status says, from the end of the job that it tells.
use Rattle.std.proofs.Common.{◌≡◌, ◌⊎◌, inl, inr, ℕ, List, Some, Result, Ok, Err, sym, ◌∙◌, ap, subst, arith}
use Rattle.probe_io.specs.Files.{File, Lacks}
use Rattle.command_base.specs.declared.endings.Ending.{Ending}
use Rattle.command_base.specs.declared.endings.Ending.TheVariants.{Whole, Undecided, No}
use Rattle.command_base.specs.declared.endings.Stop.{Stop}
use Rattle.command_base.specs.declared.endings.Stop.TheVariants.{Refused, OpenFault, ReadFault, WriteFault, NoMemory}
use Rattle.command_base.specs.declared.endings.AnyStatus.{AnyStatus}
use Rattle.command_base.specs.declared.endings.AnyStatus.TheVariants.{Refused as IsRefusedFor}
use Rattle.probe_io.specs.Devices.{SinkState, IsQuiet, IsUntouched, IsUnwritten}
use Rattle.command_base.specs.Desks.{Desk}
use Rattle.command_base.specs.Jobs.{Job, IsReported, IsSuchEnd, IsHalted}
use Rattle.command_base.specs.Answers.{done_of, IsToldRefusal, IsToldAs, IsAnswer, IsInterrupted, RefusesWhere, IsInOrder, IsFaultless, IsComplete, ReportsWhere, TellsFaults}
use Rattle.command_base.specs.Exact.{IsExact}

-- ---- refusals where they are due

-- the refusal stands, and so does another: they are one
refused_as : {R : Type 0} (line : R → List ℕ) (r q : R) (diag diag' : SinkState) (status : AnyStatus R) → r ≡ q → IsToldRefusal line r diag diag' status → (status ≡ IsRefusedFor q) ⊎ IsInterrupted status
refused_as line r q diag diag' status same (inl told) = inl (told.0 ∙ ap IsRefusedFor same)
refused_as line r q diag diag' status same (inr cut) = inr (subst (λ s. IsInterrupted s) (sym cut.0) tt)

refuses_so : {R : Type 0} (line : R → List ℕ) (job : Job R) (before after : Desk) (diag diag' : SinkState) (status : AnyStatus R) (end : Result Ending (Stop R)) (q : R) (files : List File)
    → IsExact job files → before.shelf.files ≡ Some files → job.cause (Some files) q → IsSuchEnd job before after end → IsToldAs line end diag diag' status
    → (status ≡ IsRefusedFor q) ⊎ IsInterrupted status
refuses_so line job before after diag diag' status (Ok ending) q files exact are cause ends tells =
    absurd (exact.apart q ending ends.text cause (subst (λ fs. job.report fs ending ends.text) are ends.report))
refuses_so line job before after diag diag' status (Err (Refused r)) q files exact are cause ends tells =
    refused_as line r q diag diag' status (exact.one r q (subst (λ fs. job.cause fs r) are ends.cause) cause) tells
refuses_so line job before after diag diag' status (Err (OpenFault which)) q files exact are cause ends tells = inr (subst (λ s. IsInterrupted s) (sym tells.0) tt)
refuses_so line job before after diag diag' status (Err (ReadFault which)) q files exact are cause ends tells = inr (subst (λ s. IsInterrupted s) (sym tells.0) tt)
refuses_so line job before after diag diag' status (Err WriteFault) q files exact are cause ends tells =
    absurd (exact.begun_apart q ends.text cause (subst (λ fs. job.begun fs ends.text) are ends.begun))
refuses_so line job before after diag diag' status (Err NoMemory) q files exact are cause ends tells = inr (subst (λ s. IsInterrupted s) (sym tells.0) tt)

-- a refusal is answered wherever its cause stands
pub refuses_where : {R : Type 0} {line : R → List ℕ} {job : Job R} {before after : Desk} {diag diag' : SinkState} {status : AnyStatus R}
    → ((files : List File) → IsExact job files) → IsAnswer line job before after diag diag' status → RefusesWhere job before.shelf.files status
refuses_where {line = line} {job = job} {before = before} {after = after} {diag = diag} {diag' = diag'} {status = status} exact answer q files are cause =
    refuses_so line job before after diag diag' status answer.end q files (exact files) are cause answer.ends.how answer.tells.how

-- ---- completeness

done_so : {R : Type 0} (job : Job R) (ending : Ending) (before after : Desk) (files : List File) → before.shelf.files ≡ Some files → IsReported job ending before after
    → IsComplete job (Some files) (done_of ending)
done_so job Whole before after files are ends = record { text = ends.text; report = subst (λ fs. job.report fs Whole ends.text) are ends.report }
done_so job Undecided before after files are ends = record { text = ends.text; report = subst (λ fs. job.report fs Undecided ends.text) are ends.report }
done_so job No before after files are ends = record { text = ends.text; report = subst (λ fs. job.report fs No ends.text) are ends.report }

never_unstarted : {P Q : Type 0} → (P → ⊥) → (Q → ⊥) → P ⊎ Q → ⊥
never_unstarted no_file no_fault (inl lacks) = no_file lacks
never_unstarted no_file no_fault (inr rose) = no_fault rose

complete_so : {R : Type 0} (line : R → List ℕ) (job : Job R) (before after : Desk) (diag diag' : SinkState) (status : AnyStatus R) (end : Result Ending (Stop R)) (files : List File)
    → before.shelf.files ≡ Some files → IsInOrder job files → IsFaultless before after diag diag' → IsSuchEnd job before after end → IsToldAs line end diag diag' status
    → IsComplete job (Some files) status
complete_so line job before after diag diag' status (Ok ending) files are order faultless ends tells =
    subst (λ s. IsComplete job (Some files) s) (sym tells.0) (done_so job ending before after files are ends)
complete_so line job before after diag diag' status (Err (Refused r)) files are order faultless ends tells = absurd (order.no_cause r (subst (λ fs. job.cause fs r) are ends.cause))
complete_so line job before after diag diag' status (Err (OpenFault which)) files are order faultless ends tells =
    absurd (never_unstarted (λ lacks. order.there which ends.shelf.name (subst (λ fs. job.reads fs which ends.shelf.name) are ends.shelf.asked) (subst (λ fs. Lacks fs ends.shelf.name) are lacks))
    faultless.starts ends.shelf.shelf.failed)
complete_so line job before after diag diag' status (Err (ReadFault which)) files are order faultless ends tells = absurd (faultless.reads ends.shelf.shelf.failed)
complete_so line job before after diag diag' status (Err WriteFault) files are order faultless ends tells = absurd (faultless.out ends.out.failed)
complete_so line job before after diag diag' status (Err NoMemory) files are order faultless ends tells = subst (λ s. IsComplete job (Some files) s) (sym tells.0) tt

-- a report is written wherever input and devices are in order
pub reports_where : {R : Type 0} {line : R → List ℕ} {job : Job R} {before after : Desk} {diag diag' : SinkState} {status : AnyStatus R}
    → IsAnswer line job before after diag diag' status → ReportsWhere job before after diag diag' status
reports_where {line = line} {job = job} {before = before} {after = after} {diag = diag} {diag' = diag'} {status = status} answer files are order faultless =
    complete_so line job before after diag diag' status answer.end files are order faultless answer.ends.how answer.tells.how

-- ---- no failed call is passed over

untouched_quiet : {before after : SinkState} → IsUntouched before after → IsQuiet before.strict before.faults after.faults
untouched_quiet untouched = record { later = omega (arith, untouched.faults); quiet = λ is. untouched.faults }

still_or_halted : {before after : SinkState} {halted : List ℕ → Type 0} → IsUnwritten before after ⊎ IsHalted halted before after → IsQuiet before.strict before.faults after.faults
still_or_halted (inl still) = still.quiet
still_or_halted (inr halted) = halted.out.quiet

reported_faults : {R : Type 0} (job : Job R) (ending : Ending) (before after : Desk) (diag diag' : SinkState) → IsReported job ending before after → IsUntouched diag diag'
    → TellsFaults before after diag diag' (done_of {R = R} ending)
reported_faults job ending before after diag diag' ends untouched =
    record { starts = λ h. ends.shelf.starts; reads = λ h. ends.shelf.reads; cut_off = λ h. ends.out.quiet; line = λ h. untouched_quiet untouched }

refused_faults : {R : Type 0} (line : R → List ℕ) (job : Job R) (before after : Desk) (diag diag' : SinkState) (status : AnyStatus R) (r : R)
    → IsSuchEnd job before after (Err (Refused r)) → IsToldRefusal line r diag diag' status → TellsFaults before after diag diag' status
refused_faults line job before after diag diag' status r ends (inl told) = record {
  starts = λ h. ends.shelf.starts;
  reads = λ h. ends.shelf.reads;
  cut_off = λ h. untouched_quiet ends.out;
  line = λ h. told.1.quiet;
}
refused_faults line job before after diag diag' status r ends (inr cut) = subst (λ s. TellsFaults before after diag diag' s) (sym cut.0)
    (record { starts = λ h. ends.shelf.starts; reads = λ h. ends.shelf.reads; cut_off = λ h. untouched_quiet ends.out; line = λ h. cc })

faults_so : {R : Type 0} (line : R → List ℕ) (job : Job R) (before after : Desk) (diag diag' : SinkState) (status : AnyStatus R) (end : Result Ending (Stop R))
    → IsSuchEnd job before after end → IsToldAs line end diag diag' status → TellsFaults before after diag diag' status
faults_so line job before after diag diag' status (Ok ending) ends tells =
    subst (λ s. TellsFaults before after diag diag' s) (sym tells.0) (reported_faults job ending before after diag diag' ends tells.1)
faults_so line job before after diag diag' status (Err (Refused r)) ends tells = refused_faults line job before after diag diag' status r ends tells
faults_so line job before after diag diag' status (Err (OpenFault which)) ends tells = subst (λ s. TellsFaults before after diag diag' s) (sym tells.0)
    (record { starts = λ h. cc; reads = λ h. ends.shelf.shelf.reads; cut_off = λ h. untouched_quiet ends.out; line = λ h. cc })
faults_so line job before after diag diag' status (Err (ReadFault which)) ends tells = subst (λ s. TellsFaults before after diag diag' s) (sym tells.0)
    (record { starts = λ h. ends.shelf.shelf.starts; reads = λ h. cc; cut_off = λ h. untouched_quiet ends.out; line = λ h. cc })
faults_so line job before after diag diag' status (Err WriteFault) ends tells = subst (λ s. TellsFaults before after diag diag' s) (sym tells.0)
    (record { starts = λ h. ends.shelf.starts; reads = λ h. ends.shelf.reads; cut_off = λ h. cc; line = λ h. cc })
faults_so line job before after diag diag' status (Err NoMemory) ends tells = subst (λ s. TellsFaults before after diag diag' s) (sym tells.0)
    (record { starts = λ h. ends.shelf.starts; reads = λ h. ends.shelf.reads; cut_off = λ h. still_or_halted ends.out; line = λ h. cc })

-- the status tells of each failed call
pub tells_faults : {R : Type 0} {line : R → List ℕ} {job : Job R} {before after : Desk} {diag diag' : SinkState} {status : AnyStatus R}
    → IsAnswer line job before after diag diag' status → TellsFaults before after diag diag' status
tells_faults {line = line} {job = job} {before = before} {after = after} {diag = diag} {diag' = diag'} {status = status} answer =
    faults_so line job before after diag diag' status answer.end answer.ends.how answer.tells.how
