-- How a job ends, from how its input was judged and what was written.
use Rattle.std.proofs.Common.{◌≡◌, ◌⊎◌, inl, inr, Result, Ok, Err, refl, sym, subst}
use Rattle.std.specs.Prelude.{IsErrAnd}
use Rattle.command_base.specs.declared.endings.Ending.{Ending}
use Rattle.command_base.specs.declared.endings.Stop.{Stop}
use Rattle.command_base.specs.declared.endings.Stop.TheVariants.{Refused, OpenFault, ReadFault, WriteFault, NoMemory}
use Rattle.probe_io.specs.Devices.{Files, ShelfState, SinkState, IsUntouched, IsUnwritten}
use Rattle.command_base.specs.Desks.{Desk}
use Rattle.command_base.specs.Stages.{Stage, IsGiven, IsJudged, JudgesAs}
use Rattle.command_base.proofs.Judging.{quiet_still, quiet_shelf_still}
use Rattle.command_base.specs.Jobs.{Texts, Job, job, refusing, IsSuchEnd, Ends, IsHalted, AreWritten, Writes}

abbrev desk_of : ShelfState → SinkState → Desk
desk_of shelf out = record { shelf = shelf; out = out }

-- no call was made on it
pub untouched : (s : SinkState) → IsUntouched s s
untouched s = record { written = refl; faults = refl }

unwritten : (s : SinkState) → IsUnwritten s s
unwritten s = record { written = refl; quiet = quiet_still s.strict s.faults }

stopped_so : {R A B : Type 0} (view : B → A) (stage : Stage R A) (texts : Texts A) (a b : ShelfState) (out : SinkState) (stop : Stop R)
    → IsJudged view stage a b (Err stop) → IsSuchEnd (job stage texts) (desk_of a out) (desk_of b out) (Err stop)
stopped_so view stage texts a b out (Refused refusal) judged = record { cause = judged.refuses; shelf = judged.shelf; out = untouched out }
stopped_so view stage texts a b out (OpenFault which) judged = record { shelf = judged; out = untouched out }
stopped_so view stage texts a b out (ReadFault which) judged = record { shelf = judged; out = untouched out }
stopped_so view stage texts a b out WriteFault judged = absurd judged
stopped_so view stage texts a b out NoMemory judged = record { out = inl (unwritten out); shelf = judged }

-- a job whose input gives no subject
pub job_stops : {R A B : Type 0} {view : B → A} {stage : Stage R A} {texts : Texts A} {a b : ShelfState} {out : SinkState} {stop : Stop R}
    → JudgesAs view stage a b (Err stop) → Ends (job stage texts) (desk_of a out) (desk_of b out) (Err stop)
job_stops {view = view} {stage = stage} {texts = texts} {a = a} {b = b} {out = out} {stop = stop} judges =
    record { how = stopped_so view stage texts a b out stop judges.judged }

halted_so : {R A : Type 0} (stage : Stage R A) (texts : Texts A) (subject : A) (files : Files) (out out' : SinkState) → stage.gives files subject
    → IsUnwritten out out' ⊎ IsHalted (texts.halted subject) out out' → IsUnwritten out out' ⊎ IsHalted ((job stage texts).halted files) out out'
halted_so stage texts subject files out out' given (inl still) = inl still
halted_so stage texts subject files out out' given (inr halted) =
    inr (record { text = halted.text; so_far = record { value = subject; given = given; holds = halted.so_far }; out = halted.out })

written_so : {R A B : Type 0} (view : B → A) (stage : Stage R A) (texts : Texts A) (a b : ShelfState) (out out' : SinkState) (x : B) (result : Result Ending (Stop R))
    → IsGiven stage (view x) a b → AreWritten texts (view x) out out' result → IsSuchEnd (job stage texts) (desk_of a out) (desk_of b out') result
written_so view stage texts a b out out' x (Ok ending) given written =
    record { text = written.text; report = record { value = view x; given = given.gives; holds = written.whole }; out = written.out; shelf = given.shelf }
written_so view stage texts a b out out' x (Err (Refused refusal)) given written = absurd written
written_so view stage texts a b out out' x (Err (OpenFault which)) given written = absurd written
written_so view stage texts a b out out' x (Err (ReadFault which)) given written = absurd written
written_so view stage texts a b out out' x (Err WriteFault) given written =
    record { text = written.text; begun = record { value = view x; given = given.gives; holds = written.begun }; out = written.out; shelf = given.shelf }
written_so view stage texts a b out out' x (Err NoMemory) given written = record { out = halted_so stage texts (view x) a.files out out' given.gives written.out; shelf = given.shelf }

-- a job that writes on the subject that its input gives
pub job_writes : {R A B : Type 0} {view : B → A} {stage : Stage R A} {texts : Texts A} {a b : ShelfState} {out out' : SinkState} {x : B} {result : Result Ending (Stop R)}
    → JudgesAs view stage a b (Ok x) → Writes texts (view x) out out' result → Ends (job stage texts) (desk_of a out) (desk_of b out') result
job_writes {view = view} {stage = stage} {texts = texts} {a = a} {b = b} {out = out} {out' = out'} {x = x} {result = result} judges writes =
    record { how = written_so view stage texts a b out out' x result judges.judged writes.how }

-- a job that refuses whatever files there are
pub refusing_stops : {R : Type 0} {refusal : R} {shelf : ShelfState} {out : SinkState} → Ends (refusing refusal) (desk_of shelf out) (desk_of shelf out) (Err (Refused refusal))
refusing_stops {shelf = shelf} {out = out} = record { how = record { cause = refl; shelf = quiet_shelf_still shelf; out = untouched out } }

-- the same of a result that is known to be this error
pub ends_as : {R : Type 0} {job : Job R} {before after : Desk} {r : Result Ending (Stop R)} {e : Stop R} → IsErrAnd r (λ f. f ≡ e) → Ends job before after (Err e) → Ends job before after r
ends_as {r = Ok x} is ends = absurd is
ends_as {job = job} {before = before} {after = after} {r = Err f} is ends = subst (λ g. Ends job before after (Err g)) (sym is) ends
