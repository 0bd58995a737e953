-- The first fault of a line.
use Rattle.std.proofs.Common.{◌≡◌, ℕ, ◌<◌, ◌≤◌, Bool, true, false, if◌then◌else◌, not, ◌||◌, List, [], ◌∷◌, ◌++◌, length, Option, Some, None, refl, sym, ap, ◌∙◌, subst, arith, map}
use Rattle.std.specs.List.{list_all, AllByRecursion}
use Rattle.std.specs.Str.{bytes_eq}
use Rattle.std.proofs.lemmas.Bool.{ltb-true, and_parts, and_from, not-true, or_parts}
use Rattle.std.proofs.lemmas.List.{length-append, length-map}
use Rattle.std.proofs.lemmas.Slice.Eq.{bytes_eq-Decides}
use Rattle.plane_geom.proofs.Lists.{all_push, any_map, all_weaker}
use Rattle.layer_map.specs.declared.refusal.MapRefusal.{MapRefusal}
use Rattle.layer_map.specs.declared.refusal.MapRefusal.TheVariants.{UnknownWire, Unbounded, TwiceNamed, TooMany}
use Rattle.layer_map.specs.Names.{is_among, are_distinct}
use Rattle.layer_map.specs.Grammar.{Statement}
use Rattle.layer_map.specs.Truth.{is_unbounded, formula_of}
use Rattle.layer_map.specs.Plan.{Wire, Cut, Fet, LabelWires, Plan, number_of, AreNumbers, IsKeptCut, IsKeptFet, IsKeptMap}
use Rattle.layer_map.specs.Faults.{passes_limit, uses_unknown, is_twice, has_unbounded, fault_in}
use Rattle.layer_map.specs.declared.map.WireLine.{WireLine}
use Rattle.layer_map.specs.declared.map.CutLine.{CutLine}
use Rattle.layer_map.specs.declared.map.FetLine.{FetLine}
use Rattle.layer_map.specs.declared.map.LabelLine.{LabelLine}
use Rattle.layer_map.specs.Views.{wire_seen, cut_seen, fet_seen, label_seen}
use Rattle.layer_map.specs.Readers.{is_nothing}
use Rattle.layer_map.proofs.AddingLemmas.{any_by_place}

fault_of : ℕ → Bool → Bool → Bool → Bool → Option MapRefusal
fault_of number a b c d = if a then Some (TooMany number) else if b then Some (UnknownWire number) else if c then Some (TwiceNamed number) else if d then Some (Unbounded number) else None

fault_by : (number : ℕ) (known : Plan) (s : Statement) (a b c d : Bool) → passes_limit known s ≡ a → uses_unknown known s ≡ b → is_twice known s ≡ c → has_unbounded s ≡ d → fault_in number known s ≡ fault_of number a b c d
unfolding fault_of
fault_by number known s a b c d ea eb ec ed = λ i. fault_of number (ea i) (eb i) (ec i) (ed i)

pub too_many : (number : ℕ) (known : Plan) (s : Statement) → passes_limit known s ≡ true → fault_in number known s ≡ Some (TooMany number)
unfolding fault_of
too_many number known s h = fault_by number known s true _ _ _ h refl refl refl

pub unknown : (number : ℕ) (known : Plan) (s : Statement) → passes_limit known s ≡ false → uses_unknown known s ≡ true → fault_in number known s ≡ Some (UnknownWire number)
unfolding fault_of
unknown number known s h k = fault_by number known s false true _ _ h k refl refl

pub twice : (number : ℕ) (known : Plan) (s : Statement) → passes_limit known s ≡ false → uses_unknown known s ≡ false → is_twice known s ≡ true → fault_in number known s ≡ Some (TwiceNamed number)
unfolding fault_of
twice number known s h k l = fault_by number known s false false true _ h k l refl

pub unbounded : (number : ℕ) (known : Plan) (s : Statement) → passes_limit known s ≡ false → uses_unknown known s ≡ false → is_twice known s ≡ false → has_unbounded s ≡ true → fault_in number known s ≡ Some (Unbounded number)
unfolding fault_of
unbounded number known s h k l m = fault_by number known s false false false true h k l m

pub faultless : (number : ℕ) (known : Plan) (s : Statement) → passes_limit known s ≡ false → uses_unknown known s ≡ false → is_twice known s ≡ false → has_unbounded s ≡ false → fault_in number known s ≡ None
unfolding fault_of
faultless number known s h k l m = fault_by number known s false false false false h k l m

pub neither_of : (a b : Bool) → a ≡ false → b ≡ false → (a || b) ≡ false
neither_of a b e f = λ i. e i || f i

-- ---- what a map keeps

numbers_wider : (m n : ℕ) → m ≤ n → (xs : List ℕ) → AreNumbers m xs → AreNumbers n xs
numbers_wider m n le xs h = record { some = h.some; known = all_weaker (λ w. w < m) (λ w. w < n) xs (λ x k. omega arith) h.known }

pub kept_wire : (p : Plan) (w : Wire) → IsKeptMap p → length p.wires < 16 → is_unbounded w.formula ≡ false → IsKeptMap (record p { wires = p.wires ++ (w ∷ []) })
kept_wire p w h few bounded =
    let longer : length p.wires ≤ length (p.wires ++ (w ∷ [])) = omega (arith, length-append p.wires (w ∷ [])) in
    record {
      few = omega (arith, length-append p.wires (w ∷ []));
      few_fets = h.few_fets;
      wires = all_push (λ (x : Wire). is_unbounded x.formula ≡ false) p.wires w h.wires bounded;
      cuts = all_weaker _ _ p.cuts (λ c k. record { bounded = k.bounded; wires = numbers_wider _ _ longer c.wires k.wires }) h.cuts;
      fets = all_weaker _ _ p.fets (λ f k. record { bounded = k.bounded; gate = omega (arith, k.gate, longer); diff = omega (arith, k.diff, longer) }) h.fets;
      labels = all_weaker _ _ p.labels (λ l k. numbers_wider _ _ longer l.wires k) h.labels;
      once = h.once;
    }

pub kept_cut : (p : Plan) (c : Cut) → IsKeptMap p → IsKeptCut (length p.wires) c → IsKeptMap (record p { cuts = p.cuts ++ (c ∷ []) })
kept_cut p c h k = record { few = h.few; few_fets = h.few_fets; wires = h.wires; cuts = all_push (IsKeptCut (length p.wires)) p.cuts c h.cuts k; fets = h.fets; labels = h.labels; once = h.once }

pub kept_fet : (p : Plan) (f : Fet) → IsKeptMap p → length p.fets < 8 → IsKeptFet (length p.wires) f → IsKeptMap (record p { fets = p.fets ++ (f ∷ []) })
kept_fet p f h few k = record { few = h.few; few_fets = omega (arith, length-append p.fets (f ∷ [])); wires = h.wires; cuts = h.cuts; fets = all_push (IsKeptFet (length p.wires)) p.fets f h.fets k; labels = h.labels; once = h.once }

not_same : (x y : List ℕ) → bytes_eq x y ≡ false → bytes_eq y x ≡ false
not_same x y h = go (bytes_eq y x) refl
  where
    go : (t : Bool) → bytes_eq y x ≡ t → t ≡ false
    go false e = refl
    go true e = let same : bytes_eq x y ≡ true = (bytes_eq-Decides x y).1 (sym ((bytes_eq-Decides y x).0 e)) in cc

among_more : (x n : List ℕ) (names : List (List ℕ)) → is_among x names ≡ false → bytes_eq n x ≡ false → is_among x (names ++ (n ∷ [])) ≡ false
among_more x n [] h k = neither_of (bytes_eq n x) false k refl
among_more x n (y ∷ ys) h k = let p = or_parts (bytes_eq y x) (is_among x ys) h in neither_of (bytes_eq y x) _ p.0 (among_more x n ys p.1 k)

distinct_more : (names : List (List ℕ)) (n : List ℕ) → are_distinct names ≡ true → is_among n names ≡ false → are_distinct (names ++ (n ∷ [])) ≡ true
distinct_more [] n h k = refl
distinct_more (x ∷ xs) n h k =
    let all = and_parts (not (is_among x xs)) (are_distinct xs) h in
    let p = or_parts (bytes_eq x n) (is_among n xs) k in
    and_from _ _ (ap not (among_more x n xs (not-true _ all.0) (not_same x n p.0))) (distinct_more xs n all.1 p.1)

map_more : {A B : Type 0} (f : A → B) (xs : List A) (x : A) → map f (xs ++ (x ∷ [])) ≡ map f xs ++ (f x ∷ [])
map_more f [] x = refl
map_more f (y ∷ ys) x = ap (λ zs. f y ∷ zs) (map_more f ys x)

pub kept_label : (p : Plan) (l : LabelWires) → IsKeptMap p → AreNumbers (length p.wires) l.wires → is_among l.layer (map (λ x. x.layer) p.labels) ≡ false → IsKeptMap (record p { labels = p.labels ++ (l ∷ []) })
kept_label p l h k once = record {
  few = h.few;
  few_fets = h.few_fets;
  wires = h.wires;
  cuts = h.cuts;
  fets = h.fets;
  labels = all_push (λ (x : LabelWires). AreNumbers (length p.wires) x.wires) p.labels l h.labels k;
  once = ap are_distinct (map_more (λ (x : LabelWires). x.layer) p.labels l) ∙ distinct_more (map (λ x. x.layer) p.labels) l.layer h.once once;
}

-- ---- numbers of known wires are in range

pub number_known : (wires : List Wire) (n : List ℕ) → is_among n (map (λ w. w.name) wires) ≡ true → number_of wires n < length wires
number_known wires n h = ltb-true _ _ (sym (any_by_place (λ (w : Wire). bytes_eq w.name n) wires) ∙ sym (any_map (λ other. bytes_eq other n) (λ (w : Wire). w.name) wires) ∙ h)

pub numbers_known : (wires : List Wire) (names : List (List ℕ)) → list_all (λ n. is_among n (map (λ w. w.name) wires)) names ≡ true → AllByRecursion (λ k. k < length wires) (map (number_of wires) names)
numbers_known wires [] h = tt
numbers_known wires (n ∷ ns) h = let all = and_parts (is_among n (map (λ w. w.name) wires)) (list_all (λ n. is_among n (map (λ w. w.name) wires)) ns) h in (number_known wires n all.0, numbers_known wires ns all.1)

-- ---- the same of what the code holds

pub kept_with_wire : (items new : List WireLine) (w : WireLine) (p : Plan) → p.wires ≡ map wire_seen items → new ≡ items ++ (w ∷ []) → IsKeptMap p → length items < 16 → is_unbounded (formula_of w.expr) ≡ false → IsKeptMap (record p { wires = map wire_seen new })
kept_with_wire items new w p is e h few bounded =
    let size : length p.wires ≡ length items = ap length is ∙ length-map items wire_seen in
    subst (λ ws. IsKeptMap (record p { wires = ws })) (ap (λ xs. xs ++ (wire_seen w ∷ [])) is ∙ sym (map_more wire_seen items w) ∙ ap (map wire_seen) (sym e)) (kept_wire p (wire_seen w) h (omega (arith, size, few)) bounded)

pub kept_with_cut : (items new : List CutLine) (c : CutLine) (p : Plan) → p.cuts ≡ map cut_seen items → new ≡ items ++ (c ∷ []) → IsKeptMap p → IsKeptCut (length p.wires) (cut_seen c) → IsKeptMap (record p { cuts = map cut_seen new })
kept_with_cut items new c p is e h k = subst (λ ws. IsKeptMap (record p { cuts = ws })) (ap (λ xs. xs ++ (cut_seen c ∷ [])) is ∙ sym (map_more cut_seen items c) ∙ ap (map cut_seen) (sym e)) (kept_cut p (cut_seen c) h k)

pub kept_with_fet : (items new : List FetLine) (c : FetLine) (p : Plan) → p.fets ≡ map fet_seen items → new ≡ items ++ (c ∷ []) → IsKeptMap p → length items < 8 → IsKeptFet (length p.wires) (fet_seen c) → IsKeptMap (record p { fets = map fet_seen new })
kept_with_fet items new c p is e h few k =
    let size : length p.fets ≡ length items = ap length is ∙ length-map items fet_seen in
    subst (λ ws. IsKeptMap (record p { fets = ws })) (ap (λ xs. xs ++ (fet_seen c ∷ [])) is ∙ sym (map_more fet_seen items c) ∙ ap (map fet_seen) (sym e)) (kept_fet p (fet_seen c) h (omega (arith, size, few)) k)

pub kept_with_label : (items new : List LabelLine) (c : LabelLine) (p : Plan) → p.labels ≡ map label_seen items → new ≡ items ++ (c ∷ []) → IsKeptMap p → AreNumbers (length p.wires) (label_seen c).wires → is_among (label_seen c).layer (map (λ x. x.layer) p.labels) ≡ false → IsKeptMap (record p { labels = map label_seen new })
kept_with_label items new c p is e h k once = subst (λ ws. IsKeptMap (record p { labels = ws })) (ap (λ xs. xs ++ (label_seen c ∷ [])) is ∙ sym (map_more label_seen items c) ∙ ap (map label_seen) (sym e)) (kept_label p (label_seen c) h k once)

-- a list of numbers of known wires
pub are_numbers : (wires : List Wire) (names : List (List ℕ)) (numbers : List ℕ) → is_nothing names ≡ false → list_all (λ n. is_among n (map (λ w. w.name) wires)) names ≡ true → numbers ≡ map (number_of wires) names → AreNumbers (length wires) numbers
are_numbers wires [] numbers some h e = cc
are_numbers wires (n ∷ ns) numbers some h e = subst (AreNumbers (length wires)) (sym e) (record { some = omega arith; known = numbers_known wires (n ∷ ns) h })

pub is_number : (wires : List Wire) (n : List ℕ) (k : ℕ) → is_among n (map (λ w. w.name) wires) ≡ true → k ≡ number_of wires n → k < length wires
is_number wires n k h e = omega (arith, number_known wires n h, e)

pub numbers_at_hand : (items other : List WireLine) (names : List (List ℕ)) (numbers : List ℕ) → other ≡ items → is_nothing names ≡ false → (list_all (λ n. is_among n (map (λ w. w.name) (map wire_seen other))) names ≡ true) × (numbers ≡ map (number_of (map wire_seen other)) names) → AreNumbers (length (map wire_seen items)) numbers
numbers_at_hand items other names numbers e some h = subst (λ xs. AreNumbers (length (map wire_seen xs)) numbers) e (are_numbers (map wire_seen other) names numbers some h.0 h.1)

pub number_at_hand : (items other : List WireLine) (n : List ℕ) (k : ℕ) → other ≡ items → (is_among n (map (λ w. w.name) (map wire_seen other)) ≡ true) × (k ≡ number_of (map wire_seen other) n) → k < length (map wire_seen items)
number_at_hand items other n k e h = subst (λ xs. k < length (map wire_seen xs)) e (is_number (map wire_seen other) n k h.0 h.1)

pub layer_at_hand : (items other : List LabelLine) (l : List ℕ) → other ≡ items → false ≡ is_among l (map (λ x. x.layer) (map label_seen other)) → is_among l (map (λ x. x.layer) (map label_seen items)) ≡ false
layer_at_hand items other l e h = subst (λ xs. is_among l (map (λ x. x.layer) (map label_seen xs)) ≡ false) e (sym h)
