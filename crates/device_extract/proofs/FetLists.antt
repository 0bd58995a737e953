-- The list of transistors, one by one.
use Rattle.std.proofs.Common.{◌≡◌, ℕ, zero, suc, ◌+◌, ◌<◌, List, [], ◌∷◌, ◌++◌, length, map, refl, sym, ap, ◌∙◌, subst, arith, inl, inr, slice_get, get_or, Some, Option}
use Rattle.std.specs.Prelude.{ℤ, IsSome, MatchOption}
use Rattle.std.specs.Option.{option_map}
use Rattle.std.proofs.lemmas.List.{length_push, length-map}
use Rattle.std.proofs.lemmas.Option.{slice_get_within, slice_get-get_or, slice_get-map, get_or_from_slice_get}
use Rattle.std.proofs.lemmas.List.Elements.{All-from_recursion}
use Rattle.link_classes.proofs.UniqueNumbers.{some_one, no_some}
use Rattle.plane_geom.specs.declared.shapes.Point.{Point}
use Rattle.switch_net.specs.declared.NetId.{NetId}
use Rattle.switch_net.specs.declared.fets.Fet.{Fet}
use Rattle.layer_map.specs.declared.map.FetLine.{FetLine}
use Rattle.layer_map.specs.Plan.{Plan, IsKeptMap, IsKeptFet}
use Rattle.layer_map.specs.Plan as layers
use Rattle.layer_map.specs.Views.{fet_seen}
use Rattle.net_trace.specs.declared.node.Node.{Node}
use Rattle.net_trace.specs.Touching.{Nets}
use Rattle.net_trace.specs.Nets.{node_at, IsNetNumber}
use Rattle.net_trace.proofs.VertexLists.{get_append}
use Rattle.device_extract.specs.declared.terminals.Ends.{Ends}
use Rattle.device_extract.specs.Contacts.{IsPair, IsFetAt, AreFetsAt}

-- the line with this index, as the map is seen
pub line_at : (lines : List FetLine) (fets : List layers.Fet) (k : ℕ) (line d : FetLine) → map fet_seen lines ≡ fets → k < length lines → line ≡ get_or lines k d → slice_get fets k ≡ Some (fet_seen line)
line_at lines fets k line d is lt at =
    ap (λ (l : List layers.Fet). slice_get l k) (sym is) ∙ slice_get-map fet_seen lines k ∙ ap (option_map fet_seen) (slice_get-get_or lines k d lt) ∙ ap (λ (l : FetLine). Some (fet_seen l)) (sym at)

pub line_in : (lines : List FetLine) (fets : List layers.Fet) (k : ℕ) (fet : layers.Fet) → map fet_seen lines ≡ fets → slice_get fets k ≡ Some fet → k < length lines
line_in lines fets k fet is at =
    let lt = slice_get_within fets k fet at in
    let same : length fets ≡ length lines = ap (λ (l : List layers.Fet). length l) (sym is) ∙ length-map lines fet_seen in
    omega (arith, lt, same)

-- what a map keeps of each of its lines of transistors
pub kept_at : (plan : Plan) (k : ℕ) (fet : layers.Fet) → IsKeptMap plan → slice_get plan.fets k ≡ Some fet → IsKeptFet (length plan.wires) fet
kept_at plan k fet kept at =
    subst (IsKeptFet (length plan.wires)) (get_or_from_slice_get plan.fets k fet fet at)
    (All-from_recursion (IsKeptFet (length plan.wires)) plan.fets kept.fets k fet (slice_get_within plan.fets k fet at))

pub some_of : {A : Type 0} (o : Option A) (x : A) → o ≡ Some x → IsSome o
some_of o x is = subst IsSome (sym is) refl

pub some_net : (o : Option NetId) (gate : NetId) (N : Type 0) (P : NetId → Type 0) → MatchOption o N P → o ≡ Some gate → P gate
some_net o gate N P h is = subst (λ x. MatchOption x N P) is h

-- the transistor, from its parts
pub fet_here : (plan : Plan) (nets : Nets) (root : Node) (ends : Ends) (line : layers.Fet) (cell : Point) (gate a b : NetId) (pair : NetId × NetId) → slice_get plan.fets root.wire ≡ Some line → cell.x ≡ root.x → cell.y ≡ root.y
    → IsNetNumber nets (node_at line.gate cell.x cell.y) gate.0 → IsPair ends a b → Some (a, b) ≡ Some pair → IsFetAt plan nets root ends (record { kind = line.kind; gate = gate; a = pair.0; b = pair.1 })
fet_here plan nets root ends line cell gate a b pair at is_x is_y number is same =
    let one : (a, b) ≡ pair = some_one (a, b) pair same in
    record {
      line = line;
      at = at;
      kind = refl;
      gate = subst (λ (x : ℤ). IsNetNumber nets (node_at line.gate x root.y) gate.0) is_x (subst (λ (y : ℤ). IsNetNumber nets (node_at line.gate cell.x y) gate.0) is_y number);
      pair = subst (λ (p : NetId × NetId). IsPair ends p.0 p.1) one is;
    }

module _ (plan : Plan) (nets : Nets) (roots : List Node) (ends : List Ends) where
  pub fets_none : (fets : List Fet) → fets ≡ [] → AreFetsAt plan nets roots ends 0 fets
  fets_none fets is = record { each = ap (λ (l : List Fet). length l) is; at = λ t root e fet at_r at_e at_f. no_some fet (ap (λ (l : List Fet). slice_get l t) (sym is) ∙ at_f) }

  pub fets_more : (n : ℕ) (fets new : List Fet) (fet : Fet) (d : Node) (f : Ends) → n < length roots → length ends ≡ length roots → IsFetAt plan nets (get_or roots n d) (get_or ends n f) fet → new ≡ fets ++ fet ∷ []
      → AreFetsAt plan nets roots ends n fets → AreFetsAt plan nets roots ends (n + 1) new
  fets_more n fets new fet d f lt each here is h = record {
    each = ap (λ (l : List Fet). length l) is ∙ length_push fets fet ∙ ap (λ m. m + 1) h.each;
    at = λ t root e g at_r at_e at_g. elim (get_append fets (fet ∷ []) t g (ap (λ (l : List Fet). slice_get l t) (sym is) ∙ at_g)) [
      | inl old ↦ h.at t root e g at_r at_e old.1
      | inr last ↦ by_last last.0 t root e g last.1 last.2 at_r at_e
    ];
  } where
    by_last : (j t : ℕ) (root : Node) (e : Ends) (g : Fet) → t ≡ length fets + j → slice_get (fet ∷ []) j ≡ Some g → slice_get roots t ≡ Some root → slice_get ends t ≡ Some e → IsFetAt plan nets root e g
    by_last zero t root e g place at_g at_r at_e =
        let same : t ≡ n = omega (arith, place, h.each) in
        let is_g : fet ≡ g = some_one fet g at_g in
        let is_r : get_or roots n d ≡ root = some_one (get_or roots n d) root (sym (slice_get-get_or roots n d lt) ∙ ap (λ m. slice_get roots m) (sym same) ∙ at_r) in
        let is_e : get_or ends n f ≡ e = some_one (get_or ends n f) e (sym (slice_get-get_or ends n f (omega (arith, lt, each))) ∙ ap (λ m. slice_get ends m) (sym same) ∙ at_e) in
        subst (λ (x : Fet). IsFetAt plan nets root e x) is_g (subst (λ (x : Ends). IsFetAt plan nets root x fet) is_e (subst (λ (x : Node). IsFetAt plan nets x (get_or ends n f) fet) is_r here))
    by_last (suc j) t root e g place at_g at_r at_e = no_some g at_g

  pub fets_all : (n : ℕ) (fets : List Fet) → n ≡ length roots → AreFetsAt plan nets roots ends n fets → AreFetsAt plan nets roots ends (length roots) fets
  fets_all n fets same h = subst (λ m. AreFetsAt plan nets roots ends m fets) same h
