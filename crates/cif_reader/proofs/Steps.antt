-- What one command more changes.
use Rattle.std.proofs.Common.{◌≡◌, ℕ, Bool, true, false, not, ◌&&◌, if◌then◌else◌, List, [], ◌∷◌, ◌++◌, refl, sym, ap, ◌∙◌, append-nil}
use Rattle.std.specs.Prelude.{Option, Some, None, is_some, option_map}
use Rattle.std.specs.List.{list_all}
use Rattle.plane_geom.proofs.Options.{option_or_none}
use Rattle.cif_grammar.specs.Grammar.{Command, box, polygon, wire, layer, call, user, comment, start, finish, Placed, is_inside, may_stand}
use Rattle.cif_reader.specs.declared.measure.Scale.{Scale}
use Rattle.cif_reader.specs.declared.file.Item.{Item}
use Rattle.cif_reader.specs.declared.file.What.{What}
use Rattle.cif_reader.specs.declared.file.Symbol.{Symbol}
use Rattle.cif_reader.specs.declared.builder.Builder.{Builder}
use Rattle.cif_reader.specs.Scope.{layer_behind, layer_around, open_behind}
use Rattle.cif_reader.specs.Measure.{is_whole, gridded}
use Rattle.cif_reader.specs.Reading.{Saying, Remark, IsSaid, AreSaid, AreDefined, Definition, definitions, said_since, said_outside, remarks}
use Rattle.cif_reader.specs.Faults.{starts, is_large, numbers, goes_far, has_many_points, is_manhattan, is_drawn, has_zero_scale, is_off_grid, fault_in}
use Rattle.cif_reader.specs.Built.{IsFine, IsSaidBy, IsBuilt, opening_of, is_bare, may_stand_in}
use Rattle.cif_reader.proofs.Finding.{find_none}

-- ---- no fault

not_then : {X : Type 0} (t : Bool) (x : X) (r : Option X) → (if t then Some x else r) ≡ None → (t ≡ false) × (r ≡ None)
not_then true x r h = cc
not_then false x r h = (refl, h)

no_map : {X Y : Type 0} (f : X → Y) (a : Option X) → option_map f a ≡ None → a ≡ None
no_map f None h = refl
no_map f (Some x) h = cc

not_not : (t : Bool) → not t ≡ false → t ≡ true
not_not true h = refl
not_not false h = cc

pub record Faultless (s : Scale) (twice : Bool) (c : Command) : Type 0 where
  pub fine : IsFine s c
  pub once : twice ≡ false
  pub zero : has_zero_scale c ≡ false

pub faultless : (current : Option (List ℕ)) (s : Scale) (twice : Bool) (c : Placed) → fault_in current s twice c ≡ None → Faultless s twice c.what
faultless current s twice c h =
    let a = option_or_none _ _ h in
    let far = not_then (goes_far s c.what) _ _ a.1 in
    let many = not_then (has_many_points c.what) _ _ far.1 in
    let straight = not_then (not (is_manhattan c.what)) _ _ many.1 in
    let layered = not_then (is_drawn c.what && _) _ _ straight.1 in
    let once = not_then twice _ _ layered.1 in
    let zero_is = not_then (has_zero_scale c.what) _ _ once.1 in
    let grid = not_then (is_off_grid s c.what) _ _ zero_is.1 in
    record {
      fine = record {
        small = find_none is_large (numbers c.what) (no_map _ _ a.0);
        near = far.0;
        straight = not_not (is_manhattan c.what) straight.0;
        whole = not_not (list_all (is_whole s) (gridded c.what)) grid.0;
      };
      once = once.0;
      zero = zero_is.0;
    }

-- ---- lists that are said

pub said_push : (items : List Item) (saids : List Remark) (item : Item) (remark : Remark) → AreSaid items saids → item.pos ≡ remark.at → IsSaid item.what remark.what → AreSaid (items ++ item ∷ []) (saids ++ remark ∷ [])
said_push [] [] item remark h p w = (p, w, tt)
said_push [] (r ∷ rs) item remark h p w = absurd h
said_push (i ∷ items) [] item remark h p w = absurd h
said_push (i ∷ items) (r ∷ rs) item remark h p w = (h.0, h.1, said_push items rs item remark h.2 p w)

pub defined_push : (symbols : List Symbol) (defs : List Definition) (symbol : Symbol) (d : Definition) → AreDefined symbols defs → symbol.number ≡ d.number → symbol.pos ≡ d.at → AreSaid symbol.items.items d.remarks → AreDefined (symbols ++ symbol ∷ []) (defs ++ d ∷ [])
defined_push [] [] symbol d h n p i = (n, p, i, tt)
defined_push [] (e ∷ defs) symbol d h n p i = absurd h
defined_push (s ∷ symbols) [] symbol d h n p i = absurd h
defined_push (s ∷ symbols) (e ∷ defs) symbol d h n p i = (h.0, h.1, h.2, defined_push symbols defs symbol d h.3 n p i)

pub none_said : (xs : List Saying) → IsSaidBy None xs → xs ≡ []
none_said [] h = refl
none_said (x ∷ xs) h = absurd h

pub record One (what : What) (xs : List Saying) : Type 0 where
  pub saying : Saying
  pub only : xs ≡ saying ∷ []
  pub is : IsSaid what saying

pub one_said : (what : What) (xs : List Saying) → IsSaidBy (Some what) xs → One what xs
one_said what [] h = absurd h
one_said what (x ∷ []) h = record { saying = x; only = refl; is = h }
one_said what (x ∷ y ∷ xs) h = absurd h

-- ---- inside and outside

inside_at : (before : List Placed) (at : ℕ) (what : Command) → is_inside before ≡ is_some (open_behind before) → is_inside (record { at = at; what = what } ∷ before) ≡ is_some (open_behind (record { at = at; what = what } ∷ before))
inside_at before at (box l w c d) h = h
inside_at before at (polygon p) h = h
inside_at before at (wire w p) h = h
inside_at before at (layer name) h = h
inside_at before at (call n ts) h = h
inside_at before at (user text) h = h
inside_at before at comment h = h
inside_at before at (start n s) h = refl
inside_at before at finish h = refl

pub inside_is : (before : List Placed) → is_inside before ≡ is_some (open_behind before)
inside_is [] = refl
inside_is (c ∷ before) = inside_at before c.at c.what (inside_is before)

pub built_inside : (before : List Placed) (b : Builder) → IsBuilt before b → is_inside before ≡ is_some (opening_of b.definition)
built_inside before b h = inside_is before ∙ ap is_some (sym h.opening)

pub may_stand_is : (before : List Placed) (inside : Bool) (c : Command) → is_inside before ≡ inside → may_stand before c ≡ may_stand_in inside c
may_stand_is before inside (box l w c d) h = refl
may_stand_is before inside (polygon p) h = refl
may_stand_is before inside (wire w p) h = refl
may_stand_is before inside (layer name) h = refl
may_stand_is before inside (call n ts) h = refl
may_stand_is before inside (user text) h = refl
may_stand_is before inside comment h = refl
may_stand_is before inside (start n s) h = ap not h
may_stand_is before inside finish h = h

-- ---- a command other than `L`, `DS` and `DF`

pub record Bare (before : List Placed) (c : Placed) : Type 0 where
  pub layer_is : layer_behind (c ∷ before) ≡ layer_behind before
  pub around_is : layer_around (c ∷ before) ≡ layer_around before
  pub open_is : open_behind (c ∷ before) ≡ open_behind before
  pub since_is : said_since (c ∷ before) ≡ said_since before ++ remarks before c
  pub defined_is : definitions (c ∷ before) ≡ definitions before
  pub starts_none : (n : ℕ) → starts n c ≡ false

pub bare_step : (before : List Placed) (at : ℕ) (what : Command) → is_bare what ≡ true → Bare before (record { at = at; what = what })
bare_step before at (box l w c d) h = record { layer_is = refl; around_is = refl; open_is = refl; since_is = refl; defined_is = refl; starts_none = λ n. refl }
bare_step before at (polygon p) h = record { layer_is = refl; around_is = refl; open_is = refl; since_is = refl; defined_is = refl; starts_none = λ n. refl }
bare_step before at (wire w p) h = record { layer_is = refl; around_is = refl; open_is = refl; since_is = refl; defined_is = refl; starts_none = λ n. refl }
bare_step before at (layer name) h = absurd (cc)
bare_step before at (call n ts) h = record { layer_is = refl; around_is = refl; open_is = refl; since_is = refl; defined_is = refl; starts_none = λ n. refl }
bare_step before at (user text) h = record { layer_is = refl; around_is = refl; open_is = refl; since_is = refl; defined_is = refl; starts_none = λ n. refl }
bare_step before at comment h = record { layer_is = refl; around_is = refl; open_is = refl; since_is = refl; defined_is = refl; starts_none = λ n. refl }
bare_step before at (start n s) h = absurd (cc)
bare_step before at finish h = absurd (cc)

pub outside_none : (before : List Placed) (c : Placed) (t : Bool) → remarks before c ≡ [] → (if t then said_outside before else said_outside before ++ remarks before c) ≡ said_outside before
outside_none before c true h = refl
outside_none before c false h = ap (λ r. said_outside before ++ r) h ∙ append-nil (said_outside before)
