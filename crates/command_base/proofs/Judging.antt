-- Calls that judge by stages, one after the other.
use Rattle.std.proofs.Common.{◌≡◌, ◌⊎◌, inl, inr, ℕ, ◌≤◌, Bool, List, Option, Some, None, Result, Ok, Err, refl, sym, ◌∙◌, subst, arith}
use Rattle.std.specs.Prelude.{IsErrAnd}
use Rattle.probe_io.specs.Causes.{Rose}
use Rattle.probe_io.specs.Files.{Lacks}
use Rattle.command_base.specs.declared.endings.Stop.{Stop}
use Rattle.command_base.specs.declared.endings.Stop.TheVariants.{Refused, OpenFault, ReadFault, WriteFault, NoMemory}
use Rattle.probe_io.proofs.Putting.{quiet_twice, rose_later}
use Rattle.probe_io.specs.Devices.{Files, ShelfState, IsQuiet, IsShelfQuiet, IsUnopened, IsUnread}
use Rattle.command_base.specs.Stages.{Stage, then, just, refused, layer, spelled, IsGiven, IsJudged, JudgesAs}
use Rattle.command_base.specs.Carrying.{stop_for}

-- a shelf that stayed twice stayed
pub quiet_shelf_twice : {a b c : ShelfState} → b.strict ≡ a.strict → IsShelfQuiet a b → IsShelfQuiet b c → IsShelfQuiet a c
quiet_shelf_twice same first second = record { starts = quiet_twice same first.starts second.starts; reads = quiet_twice same first.reads second.reads }

-- nothing is called
pub quiet_still : (strict : Bool) (n : ℕ) → IsQuiet strict n n
quiet_still strict n = record { later = omega arith; quiet = λ is. refl }

pub quiet_shelf_still : (s : ShelfState) → IsShelfQuiet s s
quiet_shelf_still s = record { starts = quiet_still s.strict s.start_faults; reads = quiet_still s.strict s.read_faults }

-- ---- a stop of the first stage

stopped_first : {R A B C D : Type 0} (view : C → A) (view' : D → B) (first : Stage R A) (next : A → Stage R B) (before after : ShelfState) (stop : Stop R)
    → IsJudged view first before after (Err stop) → IsJudged view' (then first next) before after (Err stop)
stopped_first view view' first next before after (Refused refusal) judged = record { refuses = inl judged.refuses; shelf = judged.shelf }
stopped_first view view' first next before after (OpenFault which) judged = record { name = judged.name; asked = inl judged.asked; shelf = judged.shelf }
stopped_first view view' first next before after (ReadFault which) judged = record { name = judged.name; asked = inl judged.asked; shelf = judged.shelf }
stopped_first view view' first next before after WriteFault judged = judged
stopped_first view view' first next before after NoMemory judged = judged

-- a call that stops in its first stage stops in both
pub stops : {R A B C D : Type 0} {view : C → A} {view' : D → B} {first : Stage R A} {next : A → Stage R B} {before after : ShelfState} {stop : Stop R}
    → JudgesAs view first before after (Err stop) → JudgesAs view' (then first next) before after (Err stop)
stops {view = view} {view' = view'} {first = first} {next = next} {before = before} {after = after} {stop = stop} judges = record {
  judged = stopped_first view view' first next before after stop judges.judged;
  strict = judges.strict;
  files = judges.files;
}

-- ---- a first stage that gives its value

lacks_or_rose : {files files' : Files} (name : List ℕ) {a b c : ℕ} → files' ≡ files → a ≤ b → Lacks files' name ⊎ Rose b c → Lacks files name ⊎ Rose a c
lacks_or_rose name same later (inl lacks) = inl (subst (λ fs. Lacks fs name) same lacks)
lacks_or_rose name same later (inr rose) = inr (rose_later later rose)

unopened_later : {name : List ℕ} {a b c : ShelfState} → b.strict ≡ a.strict → b.files ≡ a.files → IsShelfQuiet a b → IsUnopened name b c → IsUnopened name a c
unopened_later {name = name} {a = a} {c = c} strict files quiet unopened = record {
  failed = lacks_or_rose name files quiet.starts.later unopened.failed;
  later = omega (arith, quiet.starts.later, unopened.later);
  reads = quiet_twice strict quiet.reads unopened.reads;
}

unread_later : {a b c : ShelfState} → b.strict ≡ a.strict → IsShelfQuiet a b → IsUnread b c → IsUnread a c
unread_later strict quiet unread = record {
  failed = rose_later quiet.reads.later unread.failed;
  later = omega (arith, quiet.reads.later, unread.later);
  starts = quiet_twice strict quiet.starts unread.starts;
}

went_on : {R A B C D : Type 0} (view : C → A) (view' : D → B) (first : Stage R A) (next : A → Stage R B) (a b c : ShelfState) (x : C) (result : Result D (Stop R))
    → b.strict ≡ a.strict → b.files ≡ a.files → IsGiven first (view x) a b → IsJudged view' (next (view x)) b c result → IsJudged view' (then first next) a c result
went_on view view' first next a b c x (Ok y) strict files given judged = record {
  gives = record { value = view x; given = given.gives; holds = subst (λ fs. (next (view x)).gives fs (view' y)) files judged.gives };
  shelf = quiet_shelf_twice strict given.shelf judged.shelf;
}
went_on view view' first next a b c x (Err (Refused refusal)) strict files given judged = record {
  refuses = inr (record { value = view x; given = given.gives; holds = subst (λ fs. (next (view x)).refuses fs refusal) files judged.refuses });
  shelf = quiet_shelf_twice strict given.shelf judged.shelf;
}
went_on view view' first next a b c x (Err (OpenFault which)) strict files given judged = record {
  name = judged.name;
  asked = inr (record { value = view x; given = given.gives; holds = subst (λ fs. (next (view x)).reads fs which judged.name) files judged.asked });
  shelf = unopened_later strict files given.shelf judged.shelf;
}
went_on view view' first next a b c x (Err (ReadFault which)) strict files given judged = record {
  name = judged.name;
  asked = inr (record { value = view x; given = given.gives; holds = subst (λ fs. (next (view x)).reads fs which judged.name) files judged.asked });
  shelf = unread_later strict given.shelf judged.shelf;
}
went_on view view' first next a b c x (Err WriteFault) strict files given judged = judged
went_on view view' first next a b c x (Err NoMemory) strict files given judged = quiet_shelf_twice strict given.shelf judged

-- a call whose first stage gives its value goes on as the second stage does
pub goes_on : {R A B C D : Type 0} {view : C → A} {view' : D → B} {first : Stage R A} {next : A → Stage R B} {a b c : ShelfState} {x : C} {result : Result D (Stop R)}
    → JudgesAs view first a b (Ok x) → JudgesAs view' (next (view x)) b c result → JudgesAs view' (then first next) a c result
goes_on {view = view} {view' = view'} {first = first} {next = next} {a = a} {b = b} {c = c} {x = x} {result = result} here there = record {
  judged = went_on view view' first next a b c x result here.strict here.files here.judged there.judged;
  strict = there.strict ∙ here.strict;
  files = there.files ∙ here.files;
}

-- ---- stages that call nothing

-- a value that is at hand
pub gives_just : {R A B : Type 0} {view : B → A} {shelf : ShelfState} {x : B} → JudgesAs view (just {R = R} (view x)) shelf shelf (Ok x)
gives_just {shelf = shelf} = record { judged = record { gives = refl; shelf = quiet_shelf_still shelf }; strict = refl; files = refl }

-- what a layer accepts
pub layer_gives : {R L A B : Type 0} {view : B → A} {carry : L → Option R} {accepts : A → Type 0} {faults : L → Type 0} {shelf : ShelfState} {x : B}
    → accepts (view x) → JudgesAs view (layer carry accepts faults) shelf shelf (Ok x)
layer_gives {shelf = shelf} accepted = record { judged = record { gives = accepted; shelf = quiet_shelf_still shelf }; strict = refl; files = refl }

by_carried : {R L A B : Type 0} (view : B → A) (carry : L → Option R) (accepts : A → Type 0) (faults : L → Type 0) (shelf : ShelfState) (fault : L) (told : Option R)
    → carry fault ≡ told → ((refusal : R) → carry fault ≡ Some refusal → faults fault) → IsJudged view (layer carry accepts faults) shelf shelf (Err (stop_for told))
by_carried view carry accepts faults shelf fault (Some refusal) is due =
    record { refuses = record { value = fault; given = due refusal is; holds = is }; shelf = quiet_shelf_still shelf }
by_carried view carry accepts faults shelf fault None is due = quiet_shelf_still shelf

-- a layer's refusal, whose fault stands where it is carried
pub layer_stops : {R L A B : Type 0} {view : B → A} {carry : L → Option R} {accepts : A → Type 0} {faults : L → Type 0} {shelf : ShelfState} {stop : Stop R} (fault : L)
    → stop ≡ stop_for (carry fault) → ((refusal : R) → carry fault ≡ Some refusal → faults fault) → JudgesAs view (layer carry accepts faults) shelf shelf (Err stop)
layer_stops {view = view} {carry = carry} {accepts = accepts} {faults = faults} {shelf = shelf} fault is due = record {
  judged = subst (λ s. IsJudged view (layer carry accepts faults) shelf shelf (Err s)) (sym is) (by_carried view carry accepts faults shelf fault (carry fault) refl due);
  strict = refl;
  files = refl;
}

-- a word that spells a value
pub spelled_gives : {R A B : Type 0} {view : B → A} {spells : A → Type 0} {bad : R} {shelf : ShelfState} {x : B}
    → spells (view x) → JudgesAs view (spelled spells bad) shelf shelf (Ok x)
spelled_gives {shelf = shelf} spells = record { judged = record { gives = spells; shelf = quiet_shelf_still shelf }; strict = refl; files = refl }

-- a word that spells none
pub spelled_stops : {R A B : Type 0} {view : B → A} {spells : A → Type 0} {bad : R} {shelf : ShelfState}
    → ((a : A) → spells a → ⊥) → JudgesAs view (spelled spells bad) shelf shelf (Err (Refused bad))
spelled_stops {shelf = shelf} none = record { judged = record { refuses = (refl, none); shelf = quiet_shelf_still shelf }; strict = refl; files = refl }

-- no memory, before any call
pub memory_stops : {R A B : Type 0} {view : B → A} {stage : Stage R A} {shelf : ShelfState} → JudgesAs view stage shelf shelf (Err NoMemory)
memory_stops {shelf = shelf} = record { judged = quiet_shelf_still shelf; strict = refl; files = refl }

-- a refusal for another number of words
pub refused_stops : {R A B : Type 0} {view : B → A} {refusal : R} {shelf : ShelfState} → JudgesAs view (refused {A = A} refusal) shelf shelf (Err (Refused refusal))
refused_stops {shelf = shelf} = record { judged = record { refuses = refl; shelf = quiet_shelf_still shelf }; strict = refl; files = refl }

-- the same of a result that is known to be this error
pub judged_as : {R A B : Type 0} {view : B → A} {stage : Stage R A} {a b : ShelfState} {r : Result B (Stop R)} {e : Stop R}
    → IsErrAnd r (λ f. f ≡ e) → JudgesAs view stage a b (Err e) → JudgesAs view stage a b r
judged_as {r = Ok x} is judges = absurd is
judged_as {view = view} {stage = stage} {a = a} {b = b} {r = Err f} is judges = subst (λ g. JudgesAs view stage a b (Err g)) (sym is) judges
