-- In a layout that is read, each call has its own position.
use Rattle.std.proofs.Common.{◌≡◌, ◌⊎◌, inl, inr, ℕ, ◌<◌, Bool, true, false, List, [], ◌∷◌, ◌++◌, length, map, Option, None, Some, All, refl, sym, ◌∙◌, ap, subst, arith, if◌then◌else◌}
use Rattle.std.specs.List.{list_any, Contains}
use Rattle.std.proofs.lemmas.List.{length-append}
use Rattle.std.proofs.lemmas.List.Elements.{All-nil, All-cons, All-append}
use Rattle.cif_grammar.proofs.Walking.{end_some}
use Rattle.plane_geom.specs.Covering.{Figure}
use Rattle.cif_grammar.specs.Grammar.{Command, box, polygon, wire, layer, call, user, comment, start, finish, Placed, Items, is_inside}
use Rattle.cif_reader.specs.declared.file.Item.{Item}
use Rattle.cif_reader.specs.declared.file.Symbol.{Symbol}
use Rattle.cif_reader.specs.declared.file.What.{What}
use Rattle.cif_reader.specs.declared.file.What.TheVariants.{Draw, Call, Mark}
use Rattle.cif_reader.specs.File.{Contents, has_number}
use Rattle.cif_reader.specs.Scope.{Opening, layer_behind, open_behind, scale_behind}
use Rattle.cif_reader.specs.Label.{Label, label_in}
use Rattle.cif_reader.specs.Reading.{Saying, drawn, called, marked, on_layer, labelled, said, Remark, remarks, said_since, said_outside, Definition, definition_of, definitions, IsSaid, AreSaid, AreDefined, Accepts}
use Rattle.cif_flatten.specs.declared.calls.UndefinedCall.{UndefinedCall}
use Rattle.cif_flatten.specs.Faults.{undefined_by, undefined_among, undefined_in_symbols, undefined_calls}
use Rattle.cif_flatten.specs.Flattening.{AreCallsApart}

-- ---- positions fall towards the front

Falls : ℕ → List Placed → Type 0
Falls bound [] = Unit {0}
Falls bound (c ∷ before) = (c.at < bound) × Falls c.at before

items_fall : (commands : List Placed) (front : List ℕ) → Items commands 0 front → Falls (length front) commands
unfolding Falls
items_fall [] front items = tt
items_fall (c ∷ before) front items =
    let word = items.second.word in
    let some = end_some c.what _ word.back word.second in
    let same : length items.front ≡ c.at = omega (arith, items.second.place) in (
      omega (arith, ap length items.whole, length-append items.front items.back, ap length word.whole, length-append word.front word.back, some, items.second.place),
      subst (λ bound. Falls bound before) same (items_fall before items.front items.first),
    )

-- ---- calls among commands

IsCallOf : Command → ℕ → Type 0
IsCallOf (call m ts) n = m.value ≡ n
IsCallOf _ n = ⊥

one_call : (c : Command) (n m : ℕ) → IsCallOf c n → IsCallOf c m → n ≡ m
unfolding IsCallOf
one_call (call k ts) n m h g = sym h ∙ g
one_call (box l w p d) n m h g = absurd h
one_call (polygon p) n m h g = absurd h
one_call (wire w p) n m h g = absurd h
one_call (layer name) n m h g = absurd h
one_call (user text) n m h g = absurd h
one_call comment n m h g = absurd h
one_call (start k s) n m h g = absurd h
one_call finish n m h g = absurd h

-- one of the commands, at this position, calls this symbol
IsTold : List Placed → ℕ → ℕ → Type 0
IsTold [] p n = ⊥
IsTold (c ∷ before) p n = ((c.at ≡ p) × IsCallOf c.what n) ⊎ IsTold before p n

told_below : (commands : List Placed) (bound p n : ℕ) → Falls bound commands → IsTold commands p n → p < bound
unfolding Falls IsTold
told_below [] bound p n f t = absurd t
told_below (c ∷ before) bound p n f (inl here) = let at = here.0 in let low = f.0 in omega (arith, at, low)
told_below (c ∷ before) bound p n f (inr t) = let below = told_below before c.at p n f.1 t in let low = f.0 in omega (arith, below, low)

told_once : (commands : List Placed) (bound p n m : ℕ) → Falls bound commands → IsTold commands p n → IsTold commands p m → n ≡ m
unfolding Falls IsTold
told_once [] bound p n m f t u = absurd t
told_once (c ∷ before) bound p n m f (inl here) (inl there) = one_call c.what n m here.1 there.1
told_once (c ∷ before) bound p n m f (inl here) (inr u) = let below = told_below before c.at p m f.1 u in let at = here.0 in absurd (omega (arith, below, at))
told_once (c ∷ before) bound p n m f (inr t) (inl there) = let below = told_below before c.at p n f.1 t in let at = there.0 in absurd (omega (arith, below, at))
told_once (c ∷ before) bound p n m f (inr t) (inr u) = told_once before c.at p n m f.1 t u

-- ---- what is said of calls

Tells : List Placed → ℕ → Saying → Type 0
Tells commands at (drawn on figure) = Unit {0}
Tells commands at (called number steps) = IsTold commands at number
Tells commands at (marked name point on) = Unit {0}

AllTell : List Placed → List Remark → Type 0
AllTell commands [] = Unit {0}
AllTell commands (r ∷ rs) = Tells commands r.at r.what × AllTell commands rs

all_append : (commands : List Placed) (rs qs : List Remark) → AllTell commands rs → AllTell commands qs → AllTell commands (rs ++ qs)
unfolding AllTell
all_append commands [] qs a b = b
all_append commands (r ∷ rs) qs a b = (a.0, all_append commands rs qs a.1 b)

tells_more : (c : Placed) (commands : List Placed) (at : ℕ) (s : Saying) → Tells commands at s → Tells (c ∷ commands) at s
unfolding Tells IsTold
tells_more c commands at (drawn on figure) t = tt
tells_more c commands at (called number steps) t = inr t
tells_more c commands at (marked name point on) t = tt

all_more : (c : Placed) (commands : List Placed) (rs : List Remark) → AllTell commands rs → AllTell (c ∷ commands) rs
unfolding AllTell
all_more c commands [] a = tt
all_more c commands (r ∷ rs) a = (tells_more c commands r.at r.what a.0, all_more c commands rs a.1)

tell_drawn : (commands : List Placed) (at : ℕ) (current : Option (List ℕ)) (figure : Figure) → AllTell commands (map (λ what. record { at = at; what = what }) (on_layer current figure))
unfolding AllTell Tells
tell_drawn commands at None figure = tt
tell_drawn commands at (Some name) figure = (tt, tt)

tell_labelled : (commands : List Placed) (at : ℕ) (before : List Placed) (label : Option Label) → AllTell commands (map (λ what. record { at = at; what = what }) (labelled (scale_behind before) label))
unfolding AllTell Tells
tell_labelled commands at before None = tt
tell_labelled commands at before (Some l) = (tt, tt)

tell_said : (commands : List Placed) (at : ℕ) (current : Option (List ℕ)) (before : List Placed) (c : Command) → ((n : ℕ) → IsCallOf c n → IsTold commands at n) → AllTell commands (map (λ what. record { at = at; what = what }) (said current (scale_behind before) c))
unfolding AllTell Tells IsCallOf
tell_said commands at current before (box l w p d) told = tell_drawn commands at current _
tell_said commands at current before (polygon p) told = tell_drawn commands at current _
tell_said commands at current before (wire w p) told = tell_drawn commands at current _
tell_said commands at current before (call n ts) told = (told n.value refl, tt)
tell_said commands at current before (user text) told = tell_labelled commands at before (label_in text)
tell_said commands at current before (layer name) told = tt
tell_said commands at current before comment told = tt
tell_said commands at current before (start k t) told = tt
tell_said commands at current before finish told = tt

tell_remarks : (before : List Placed) (c : Placed) → AllTell (c ∷ before) (remarks before c)
unfolding IsTold
tell_remarks before c = tell_said (c ∷ before) c.at (layer_behind before) before c.what (λ n is. inl (refl, is))

since_by : (commands : List Placed) (rs qs : List Remark) (w : Command) → AllTell commands (rs ++ qs) → AllTell commands (elim w [ start n s ↦ [] | finish ↦ [] | _ ↦ rs ++ qs ])
unfolding AllTell
since_by commands rs qs (start n s) both = tt
since_by commands rs qs finish both = tt
since_by commands rs qs (box l w p d) both = both
since_by commands rs qs (polygon p) both = both
since_by commands rs qs (wire w p) both = both
since_by commands rs qs (layer name) both = both
since_by commands rs qs (call n ts) both = both
since_by commands rs qs (user text) both = both
since_by commands rs qs comment both = both

tell_since : (commands : List Placed) → AllTell commands (said_since commands)
unfolding AllTell
tell_since [] = tt
tell_since (c ∷ before) =
    since_by (c ∷ before) (said_since before) (remarks before c) c.what
    (all_append (c ∷ before) (said_since before) (remarks before c) (all_more c before (said_since before) (tell_since before)) (tell_remarks before c))

if_inside : (inside : Bool) (commands : List Placed) (xs ys : List Remark) → AllTell commands xs → AllTell commands ys → AllTell commands (if inside then xs else ys)
if_inside true commands xs ys a b = a
if_inside false commands xs ys a b = b

tell_outside : (commands : List Placed) → AllTell commands (said_outside commands)
unfolding AllTell
tell_outside [] = tt
tell_outside (c ∷ before) =
    let old = all_more c before (said_outside before) (tell_outside before) in
    if_inside (is_inside before) (c ∷ before) (said_outside before) (said_outside before ++ remarks before c) old
    (all_append (c ∷ before) (said_outside before) (remarks before c) old (tell_remarks before c))

AllDefined : List Placed → List Definition → Type 0
AllDefined commands [] = Unit {0}
AllDefined commands (d ∷ ds) = AllTell commands d.remarks × AllDefined commands ds

defined_append : (commands : List Placed) (ds es : List Definition) → AllDefined commands ds → AllDefined commands es → AllDefined commands (ds ++ es)
unfolding AllDefined
defined_append commands [] es a b = b
defined_append commands (d ∷ ds) es a b = (a.0, defined_append commands ds es a.1 b)

defined_more : (c : Placed) (commands : List Placed) (ds : List Definition) → AllDefined commands ds → AllDefined (c ∷ commands) ds
unfolding AllDefined
defined_more c commands [] a = tt
defined_more c commands (d ∷ ds) a = (all_more c commands d.remarks a.0, defined_more c commands ds a.1)

tell_definition : (commands : List Placed) (o : Option Opening) (inside : List Remark) → AllTell commands inside → AllDefined commands (definition_of o inside)
unfolding AllDefined
tell_definition commands None inside a = tt
tell_definition commands (Some o) inside a = (a, tt)

defined_by : (commands : List Placed) (ds es : List Definition) (w : Command) → AllDefined commands ds → AllDefined commands (ds ++ es) → AllDefined commands (elim w [ finish ↦ ds ++ es | _ ↦ ds ])
defined_by commands ds es finish old new = new
defined_by commands ds es (start n s) old new = old
defined_by commands ds es (box l w p d) old new = old
defined_by commands ds es (polygon p) old new = old
defined_by commands ds es (wire w p) old new = old
defined_by commands ds es (layer name) old new = old
defined_by commands ds es (call n ts) old new = old
defined_by commands ds es (user text) old new = old
defined_by commands ds es comment old new = old

tell_definitions : (commands : List Placed) → AllDefined commands (definitions commands)
unfolding AllDefined
tell_definitions [] = tt
tell_definitions (c ∷ before) =
    let old = defined_more c before (definitions before) (tell_definitions before) in
    defined_by (c ∷ before) (definitions before) (definition_of (open_behind before) (said_since before)) c.what old
    (defined_append (c ∷ before) (definitions before) (definition_of (open_behind before) (said_since before)) old
    (tell_definition (c ∷ before) (open_behind before) (said_since before) (all_more c before (said_since before) (tell_since before))))

-- ---- undefined calls

IsToldCall : List Placed → UndefinedCall → Type 0
IsToldCall commands c = IsTold commands c.pos c.symbol

if_defined : (t : Bool) (commands : List Placed) (u : UndefinedCall) → IsToldCall commands u → All (IsToldCall commands) (if t then [] else u ∷ [])
if_defined true commands u told = All-nil (IsToldCall commands)
if_defined false commands u told = All-cons (IsToldCall commands) u [] told (All-nil (IsToldCall commands))

told_by : (commands : List Placed) (symbols : List Symbol) (p q : ℕ) (w : What) (s : Saying) → p ≡ q → IsSaid w s → Tells commands q s → All (IsToldCall commands) (undefined_by symbols p w)
unfolding Tells IsToldCall
told_by commands symbols p q (Draw on shape) s e said t = All-nil (IsToldCall commands)
told_by commands symbols p q (Mark name at on) s e said t = All-nil (IsToldCall commands)
told_by commands symbols p q (Call number place) (called n steps) e said t =
    if_defined (list_any (has_number number) symbols) commands (record { pos = p; symbol = number })
    (subst (λ at. IsTold commands at number) (sym e) (subst (λ m. IsTold commands q m) (sym said.0) t))
told_by commands symbols p q (Call number place) (drawn on figure) e said t = absurd said
told_by commands symbols p q (Call number place) (marked name point on) e said t = absurd said

told_among : (commands : List Placed) (symbols : List Symbol) (items : List Item) (rs : List Remark) → AreSaid items rs → AllTell commands rs → All (IsToldCall commands) (undefined_among symbols items)
unfolding AllTell
told_among commands symbols [] [] said all = All-nil (IsToldCall commands)
told_among commands symbols [] (r ∷ rs) said all = absurd said
told_among commands symbols (item ∷ items) [] said all = absurd said
told_among commands symbols (item ∷ items) (r ∷ rs) said all =
    All-append (IsToldCall commands) (undefined_by symbols item.pos item.what) (undefined_among symbols items)
    (told_by commands symbols item.pos r.at item.what r.what said.0 said.1 all.0) (told_among commands symbols items rs said.2 all.1)

told_in : (commands : List Placed) (symbols some : List Symbol) (ds : List Definition) → AreDefined some ds → AllDefined commands ds → All (IsToldCall commands) (undefined_in_symbols symbols some)
unfolding AllDefined
told_in commands symbols [] [] are all = All-nil (IsToldCall commands)
told_in commands symbols [] (d ∷ ds) are all = absurd are
told_in commands symbols (s ∷ some) [] are all = absurd are
told_in commands symbols (s ∷ some) (d ∷ ds) are all =
    All-append (IsToldCall commands) (undefined_among symbols s.items.items) (undefined_in_symbols symbols some)
    (told_among commands symbols s.items.items d.remarks are.2 all.0) (told_in commands symbols some ds are.3 all.1)

told_calls : (text : List ℕ) (file : Contents) (a : Accepts text file) → All (IsToldCall a.commands) (undefined_calls file)
told_calls text file a =
    All-append (IsToldCall a.commands) (undefined_in_symbols file.symbols file.symbols) (undefined_among file.symbols file.top)
    (told_in a.commands file.symbols file.symbols (definitions a.commands) a.symbols (tell_definitions a.commands))
    (told_among a.commands file.symbols file.top (said_outside a.commands) a.top (tell_outside a.commands))

told_one : (commands : List Placed) (calls : List UndefinedCall) (u : UndefinedCall) → All (IsToldCall commands) calls → Contains calls u → IsTold commands u.pos u.symbol
unfolding IsToldCall
told_one commands calls u all has = subst (λ (v : UndefinedCall). IsTold commands v.pos v.symbol) has.2 (all has.0 u has.1)

-- In a layout that is read, calls at one position name one symbol.
pub calls_apart : (text : List ℕ) (file : Contents) → Accepts text file → AreCallsApart file
calls_apart text file accepts = record {
  apart = λ a b here there same.
      let all = told_calls text file accepts in
      told_once accepts.commands (length accepts.spelled.front) b.pos a.symbol b.symbol (items_fall accepts.commands accepts.spelled.front accepts.spelled.items)
      (subst (λ p. IsTold accepts.commands p a.symbol) same (told_one accepts.commands (undefined_calls file) a all here))
      (told_one accepts.commands (undefined_calls file) b all there);
}
