-- The state behind one command more.
use Rattle.std.proofs.Common.{◌≡◌, ℕ, ◌<◌, Bool, true, false, not, ◌||◌, if◌then◌else◌, List, [], ◌∷◌, ◌++◌, map, refl, sym, ap, subst, ◌∙◌, append-nil, arith}
use Rattle.std.proofs.lemmas.Bool.{or_parts}
use Rattle.std.specs.Prelude.{Option, Some, None, is_some, ◌==◌, OnOk, Ok, Err, Result, option_map}
use Rattle.std.specs.List.{list_any}
use Rattle.std.specs.Option.{option_or}
use Rattle.std.proofs.lemmas.List.Folds.{list_any-append}
use Rattle.std.proofs.lemmas.Bool.Decides.{nat_tests}
use Rattle.cif_grammar.specs.declared.spelled.Number.{Number}
use Rattle.cif_grammar.specs.declared.spelled.Command.{Command as Held}
use Rattle.cif_grammar.specs.declared.spelled.Command.TheVariants.{Box, Polygon, Wire, Layer, Call, User, Comment, Start, Finish}
use Rattle.cif_grammar.specs.Seen.{seen}
use Rattle.cif_grammar.specs.Grammar.{Command, layer, start, finish, Placed, is_inside, may_stand}
use Rattle.cif_reader.specs.declared.measure.Scale.{Scale}
use Rattle.cif_reader.specs.declared.refusal.CifRefusal.{CifRefusal}
use Rattle.cif_reader.specs.declared.refusal.CifRefusal.TheVariants.{NumberTooLarge}
use Rattle.cif_reader.specs.declared.file.Item.{Item}
use Rattle.cif_reader.specs.declared.file.What.{What}
use Rattle.cif_reader.specs.declared.file.Symbol.{Symbol}
use Rattle.cif_reader.specs.declared.builder.Open.{Open}
use Rattle.cif_reader.specs.declared.builder.Builder.{Builder}
use Rattle.cif_reader.specs.Scope.{Opening, layer_behind, open_behind, scale_behind, scale_in, scale_of}
use Rattle.cif_reader.specs.File.{Contents, AreKeptItems, IsKeptWhat, has_number}
use Rattle.cif_reader.specs.Reading.{Saying, Remark, IsSaid, AreSaid, AreDefined, definitions, definition_of, said_since, said_outside, said, remarks}
use Rattle.cif_reader.specs.Faults.{starts, large_number, is_twice, has_zero_scale, fault_in, fault_of}
use Rattle.cif_reader.specs.Built.{IsSaidBy, IsBuilt, IsClosed, opening_of, items_in, grown_in, grown_outside, opens, is_bare}
use Rattle.cif_reader.proofs.Numbered.{kept_push}
use Rattle.cif_reader.proofs.Steps.{bare_step, outside_none, none_said, one_said, said_push, defined_push, built_inside, faultless}

pub on_ok4 : {T E P Q R S U : Type 0} (r : Result T E) → (P → Q → R → S → U) → OnOk r P → OnOk r Q → OnOk r R → OnOk r S → OnOk r U
on_ok4 (Ok x) f p q s t = f p q s t
on_ok4 (Err e) f p q s t = p

pub on_ok5 : {T E P Q R S V U : Type 0} (r : Result T E) → (P → Q → R → S → V → U) → OnOk r P → OnOk r Q → OnOk r R → OnOk r S → OnOk r V → OnOk r U
on_ok5 (Ok x) f p q s t v = f p q s t v
on_ok5 (Err e) f p q s t v = p

said_as : (before : List Placed) (b : Builder) (what : Command) (scale : Scale) → IsBuilt before b → scale ≡ scale_in (opening_of b.definition) → said b.layer scale what ≡ said (layer_behind before) (scale_behind before) what
said_as before b what scale h e = λ i. said (h.layer i) ((e ∙ ap scale_in h.opening) i) what

remark_at : ℕ → Saying → Remark
remark_at at what = record { at = at; what = what }

-- a command that says nothing
pub nothing_built : (before : List Placed) (b : Builder) (at : ℕ) (what : Command) (w : Option What) (scale : Scale) → IsBuilt before b → is_bare what ≡ true → scale ≡ scale_in (opening_of b.definition) → w ≡ None → IsSaidBy w (said b.layer scale what) → IsBuilt (record { at = at; what = what } ∷ before) b
nothing_built before b at what w scale h bare e none s =
    let c : Placed = record { at = at; what = what } in
    let step = bare_step before at what bare in
    let silent = sym (said_as before b what scale h e) ∙ none_said _ (subst (λ r. IsSaidBy r (said b.layer scale what)) none s) in
    let empty : remarks before c ≡ [] = ap (map (λ u. record { at = at; what = u })) silent in
    record {
      layer = h.layer ∙ sym step.layer_is;
      outer = h.outer ∙ sym step.around_is;
      opening = h.opening ∙ sym step.open_is;
      inside = λ t. subst (AreSaid (items_in b.definition)) (sym (step.since_is ∙ ap (λ r. said_since before ++ r) empty ∙ append-nil (said_since before))) (h.inside t);
      symbols = subst (AreDefined b.file.symbols) (sym step.defined_is) h.symbols;
      top = subst (AreSaid b.file.top) (sym (outside_none before c (is_inside before) empty)) h.top;
      starts = λ n. ap (λ t. t || list_any (starts n) before) (step.starts_none n) ∙ h.starts n;
      sound = h.sound;
    }

outside_case : (r : Option Open) (before : List Placed) (c : Placed) (top : List Item) (item : Item) (remark : Remark) → is_inside before ≡ is_some (opening_of r) → AreSaid top (said_outside before) → remarks before c ≡ remark ∷ [] → AreSaid (top ++ item ∷ []) (said_outside before ++ remark ∷ []) → AreSaid (grown_outside r top item) (said_outside (c ∷ before))
outside_case None before c top item remark e h one more = subst (AreSaid (top ++ item ∷ [])) (sym (ap (λ t. if t then said_outside before else said_outside before ++ remarks before c) e ∙ ap (λ r. said_outside before ++ r) one)) more
outside_case (Some o) before c top item remark e h one more = subst (AreSaid top) (sym (ap (λ t. if t then said_outside before else said_outside before ++ remarks before c) e)) h

inside_case : (r : Option Open) (saids : List Remark) (item : Item) (remark : Remark) → is_some (opening_of r) ≡ true → (is_some (opening_of r) ≡ true → AreSaid (items_in r) saids) → ((items : List Item) → AreSaid items saids → AreSaid (items ++ item ∷ []) (saids ++ remark ∷ [])) → AreSaid (grown_in r item) (saids ++ remark ∷ [])
inside_case None saids item remark t h push = cc
inside_case (Some o) saids item remark t h push = push o.items.items (h t)

kept_case : (r : Option Open) (item : Item) → AreKeptItems (items_in r) → IsKeptWhat item.what → AreKeptItems (grown_in r item)
kept_case None item h k = tt
kept_case (Some o) item h k = kept_push o.items.items item h k

-- a command that says one thing
pub item_built : (before : List Placed) (b b' : Builder) (at : ℕ) (what : Command) (w : What) (item : Item) (scale : Scale) → IsBuilt before b → is_bare what ≡ true → scale ≡ scale_in (opening_of b.definition) → IsSaidBy (Some w) (said b.layer scale what) → item.pos ≡ at → item.what ≡ w → IsKeptWhat w
    → b'.layer ≡ b.layer → b'.outer ≡ b.outer
    → opening_of b'.definition ≡ opening_of b.definition → items_in b'.definition ≡ grown_in b.definition item → b'.file.symbols ≡ b.file.symbols → b'.file.top ≡ grown_outside b.definition b.file.top item
    → IsBuilt (record { at = at; what = what } ∷ before) b'
item_built before b b' at what w item scale h bare e s place is kept same_layer same_outer same_open grown same_symbols grown_top =
    let c : Placed = record { at = at; what = what } in
    let step = bare_step before at what bare in
    let one = one_said w (said b.layer scale what) s in
    let saying = sym (said_as before b what scale h e) ∙ one.only in
    let remark : Remark = record { at = at; what = one.saying } in
    let only : remarks before c ≡ remark ∷ [] = ap (map (λ u. record { at = at; what = u })) saying in
    let fits = subst (λ v. IsSaid v one.saying) (sym is) one.is in
    let push = λ (items : List Item) (saids : List Remark) (a : AreSaid items saids). said_push items saids item remark a place fits in
    record {
      layer = same_layer ∙ h.layer ∙ sym step.layer_is;
      outer = same_outer ∙ h.outer ∙ sym step.around_is;
      opening = same_open ∙ h.opening ∙ sym step.open_is;
      inside = λ t.
          subst (AreSaid (items_in b'.definition)) (sym (step.since_is ∙ ap (λ r. said_since before ++ r) only))
          (subst (λ r. AreSaid r (said_since before ++ remark ∷ [])) (sym grown) (inside_case b.definition (said_since before) item remark (ap is_some (sym same_open) ∙ t) h.inside (λ items a. push items (said_since before) a)));
      symbols = subst (AreDefined b'.file.symbols) (sym step.defined_is) (subst (λ r. AreDefined r (definitions before)) (sym same_symbols) h.symbols);
      top = subst (λ r. AreSaid r (said_outside (c ∷ before))) (sym grown_top) (outside_case b.definition before c b.file.top item remark (built_inside before b h) h.top only (push b.file.top (said_outside before) h.top));
      starts = λ n. ap (λ t. t || list_any (starts n) before) (step.starts_none n) ∙ h.starts n ∙ λ i. list_any (has_number n) (sym same_symbols i) || opens n (sym same_open i);
      sound = record {
        positive = subst (λ (o : Option Opening). 0 < (scale_in o).b) (sym same_open) h.sound.positive;
        another = λ o is. subst (λ r. list_any (has_number o.symbol) r ≡ false) (sym same_symbols) (h.sound.another o (sym same_open ∙ is));
        kept = subst AreKeptItems (sym grown) (kept_case b.definition item h.sound.kept (subst IsKeptWhat (sym is) kept));
      };
    }

clash : (r : Option Opening) → r ≡ None → is_some r ≡ true → ⊥
clash None e t = cc
clash (Some o) e t = cc

clash_some : (o : Opening) → None ≡ Some o → ⊥
clash_some o e = cc

-- ---- `L`

pub layer_built : (before : List Placed) (b b' : Builder) (at : ℕ) (name : List ℕ) → IsBuilt before b → b'.layer ≡ Some name → b'.outer ≡ b.outer → b'.definition ≡ b.definition → b'.file ≡ b.file → IsBuilt (record { at = at; what = layer name } ∷ before) b'
layer_built before b b' at name h named same_outer same_open same_file =
    let c : Placed = record { at = at; what = layer name } in
    record {
      layer = named;
      outer = same_outer ∙ h.outer;
      opening = ap opening_of same_open ∙ h.opening;
      inside = λ t. subst (λ (r : Option Open). AreSaid (items_in r) (said_since (c ∷ before))) (sym same_open) (subst (AreSaid (items_in b.definition)) (sym (append-nil (said_since before))) (h.inside (ap (λ (r : Option Open). is_some (opening_of r)) (sym same_open) ∙ t)));
      symbols = subst (λ (f : Contents). AreDefined f.symbols (definitions before)) (sym same_file) h.symbols;
      top = subst (λ (f : Contents). AreSaid f.top (said_outside (c ∷ before))) (sym same_file) (subst (AreSaid b.file.top) (sym (outside_none before c (is_inside before) refl)) h.top);
      starts = λ n. h.starts n ∙ λ i. list_any (has_number n) (sym same_file i).symbols || opens n (opening_of (sym same_open i));
      sound = record {
        positive = subst (λ (r : Option Open). 0 < (scale_in (opening_of r)).b) (sym same_open) h.sound.positive;
        another = λ o is. subst (λ (f : Contents). list_any (has_number o.symbol) f.symbols ≡ false) (sym same_file) (h.sound.another o (ap opening_of (sym same_open) ∙ is));
        kept = subst (λ (r : Option Open). AreKeptItems (items_in r)) (sym same_open) h.sound.kept;
      };
    }

-- ---- `DS`

positive_of : (n : ℕ) → (n == 0) ≡ false → 0 < n
positive_of n h = grind (arith, nat_tests)

zero_free : (n : Number) (s : Option (Number × Number)) → has_zero_scale (start n s) ≡ false → 0 < (scale_of s).b
zero_free n None h = omega arith
zero_free n (Some s) h = positive_of s.1.value (or_parts (s.0.value == 0) (s.1.value == 0) h).1

none_open : (r : Option Opening) (n : ℕ) → is_some r ≡ false → opens n r ≡ false
none_open None n h = refl
none_open (Some o) n h = cc

not_back : (t : Bool) → not t ≡ true → t ≡ false
not_back false h = refl
not_back true h = cc

or_none : (a b : Bool) → b ≡ false → (a || b) ≡ a
or_none true b h = refl
or_none false b h = h

or_turned : (a b : Bool) → (a || b) ≡ (b || a)
or_turned true true = refl
or_turned true false = refl
or_turned false true = refl
or_turned false false = refl

some_opening : (o p : Opening) → Some o ≡ Some p → o ≡ p
some_opening o p h = cc

pub start_built : (before : List Placed) (b b' : Builder) (at : ℕ) (n : Number) (s : Option (Number × Number)) → IsBuilt before b → may_stand before (start n s) ≡ true → fault_of before (record { at = at; what = start n s }) ≡ None
    → b'.layer ≡ None → b'.outer ≡ b.layer → opening_of b'.definition ≡ Some (record { at = at; symbol = n.value; scale = scale_of s }) → items_in b'.definition ≡ [] → b'.file ≡ b.file
    → IsBuilt (record { at = at; what = start n s } ∷ before) b'
start_built before b b' at n s h may fine no_layer old_layer opened empty same_file =
    let c : Placed = record { at = at; what = start n s } in
    let f = faultless (layer_behind before) (scale_behind before) (is_twice before (start n s)) c fine in
    let outside : is_inside before ≡ false = not_back (is_inside before) may in
    let closed : is_some (opening_of b.definition) ≡ false = sym (built_inside before b h) ∙ outside in
    let known = λ (m : ℕ). h.starts m ∙ or_none (list_any (has_number m) b.file.symbols) (opens m (opening_of b.definition)) (none_open (opening_of b.definition) m closed) in
    record {
      layer = no_layer;
      outer = old_layer ∙ h.layer;
      opening = opened;
      inside = λ t. subst (λ (items : List Item). AreSaid items []) (sym empty) tt;
      symbols = subst (λ (f : Contents). AreDefined f.symbols (definitions before)) (sym same_file) h.symbols;
      top = subst (λ (f : Contents). AreSaid f.top (said_outside (c ∷ before))) (sym same_file) (subst (AreSaid b.file.top) (sym (outside_none before c (is_inside before) refl)) h.top);
      starts = λ m. ap (λ t. (m == n.value) || t) (known m) ∙ or_turned (m == n.value) (list_any (has_number m) b.file.symbols) ∙ λ i. list_any (has_number m) (sym same_file i).symbols || opens m (sym opened i);
      sound = record {
        positive = subst (λ (o : Option Opening). 0 < (scale_in o).b) (sym opened) (zero_free n s f.zero);
        another = λ o is. subst (λ (p : Opening). list_any (has_number p.symbol) b'.file.symbols ≡ false) (some_opening _ _ (sym opened ∙ is)) (subst (λ (f : Contents). list_any (has_number n.value) f.symbols ≡ false) (sym same_file) (sym (known n.value) ∙ f.once));
        kept = subst AreKeptItems (sym empty) tt;
      };
    }

-- ---- `DF`

closed_defined : (r : Option Open) (before after : List Symbol) (at : List Placed) → opening_of r ≡ open_behind at → (is_some (opening_of r) ≡ true → AreSaid (items_in r) (said_since at)) → AreDefined before (definitions at) → IsClosed (opening_of r) (items_in r) before after → AreDefined after (definitions at ++ definition_of (open_behind at) (said_since at))
closed_defined None before after at e inside h closed =
    subst (λ o. AreDefined after (definitions at ++ definition_of o (said_since at))) e (subst (AreDefined after) (sym (append-nil (definitions at))) (subst (λ r. AreDefined r (definitions at)) (sym closed) h))
closed_defined (Some o) before after at e inside h closed =
    subst (λ r. AreDefined after (definitions at ++ definition_of r (said_since at))) e
    (subst (λ r. AreDefined r (definitions at ++ definition_of (opening_of (Some o)) (said_since at))) (sym closed.4)
    (defined_push before (definitions at) closed.0 (record { number = o.number; at = o.pos; remarks = said_since at }) h closed.1 closed.2 (subst (λ items. AreSaid items (said_since at)) (sym closed.3) (inside refl))))

closed_numbers : (r : Option Opening) (items : List Item) (before after : List Symbol) (n : ℕ) → IsClosed r items before after → (list_any (has_number n) before || opens n r) ≡ (list_any (has_number n) after || false)
closed_numbers None items before after n closed = ap (λ r. list_any (has_number n) r || false) (sym closed)
closed_numbers (Some o) items before after n closed =
    sym (or_none (list_any (has_number n) after) false refl ∙ ap (list_any (has_number n)) closed.4 ∙ list_any-append (has_number n) before (closed.0 ∷ [])
    ∙ ap (λ t. list_any (has_number n) before || t) (or_none (n == closed.0.number) false refl ∙ ap (λ m. n == m) closed.1))

pub finish_built : (before : List Placed) (b b' : Builder) (at : ℕ) → IsBuilt before b
    → b'.layer ≡ b.outer → b'.outer ≡ b.outer → opening_of b'.definition ≡ None → b'.file.top ≡ b.file.top → IsClosed (opening_of b.definition) (items_in b.definition) b.file.symbols b'.file.symbols → items_in b'.definition ≡ []
    → IsBuilt (record { at = at; what = finish } ∷ before) b'
finish_built before b b' at h old_layer same_outer none same_top closed empty =
    let c : Placed = record { at = at; what = finish } in
    record {
      layer = old_layer ∙ h.outer;
      outer = same_outer ∙ h.outer;
      opening = none;
      inside = λ t. absurd (clash (opening_of b'.definition) none t);
      symbols = closed_defined b.definition b.file.symbols b'.file.symbols before h.opening h.inside h.symbols closed;
      top = subst (λ r. AreSaid r (said_outside (c ∷ before))) (sym same_top) (subst (AreSaid b.file.top) (sym (outside_none before c (is_inside before) refl)) h.top);
      starts = λ n. h.starts n ∙ closed_numbers (opening_of b.definition) (items_in b.definition) b.file.symbols b'.file.symbols n closed ∙ ap (λ r. list_any (has_number n) b'.file.symbols || opens n r) (sym none);
      sound = record {
        positive = subst (λ (o : Option Opening). 0 < (scale_in o).b) (sym none) (omega arith);
        another = λ o is. absurd (clash_some o (sym none ∙ is));
        kept = subst AreKeptItems (sym empty) tt;
      };
    }

-- ---- the code's tests

pub bare_of : (h : Held) → ((name : List ℕ) → h ≡ Layer name → ⊥) → ((n : Number) (s : Option (Number × Number)) → h ≡ Start n s → ⊥) → (h ≡ Finish → ⊥) → is_bare (seen h) ≡ true
bare_of (Box l w c d) f g k = refl
bare_of (Polygon p) f g k = refl
bare_of (Wire w p) f g k = refl
bare_of (Layer name) f g k = absurd (f name refl)
bare_of (Call n ts) f g k = refl
bare_of (User text) f g k = refl
bare_of Comment f g k = refl
bare_of (Start n s) f g k = absurd (g n s refl)
bare_of Finish f g k = absurd (k refl)

first_large : (a b : Option CifRefusal) (r : Option Number) (n : Number) → r ≡ Some n → option_or (option_map (λ n. NumberTooLarge n.at) r) a ≡ option_or (option_map (λ n. NumberTooLarge n.at) r) b
first_large a b None n e = cc
first_large a b (Some m) n e = refl

judged_case : (current : Option (List ℕ)) (s : Scale) (t u : Bool) (c : Placed) (r : Option Number) → large_number c.what ≡ r → (r ≡ None → t ≡ u) → fault_in current s t c ≡ fault_in current s u c
judged_case current s t u c None e h = ap (λ v. fault_in current s v c) (h refl)
judged_case current s t u c (Some n) e h = first_large _ _ (large_number c.what) n e

pub judged : (before : List Placed) (b : Builder) (at : ℕ) (what : Command) (scale : Scale) (t : Bool) → IsBuilt before b → scale ≡ scale_in (opening_of b.definition) → (large_number what ≡ None → t ≡ is_twice before what) → fault_in b.layer scale t (record { at = at; what = what }) ≡ fault_of before (record { at = at; what = what })
judged before b at what scale t h e same =
    let c : Placed = record { at = at; what = what } in
    (λ i. fault_in (h.layer i) ((e ∙ ap scale_in h.opening) i) t c)
    ∙ judged_case (layer_behind before) (scale_behind before) t (is_twice before what) c (large_number what) refl same
