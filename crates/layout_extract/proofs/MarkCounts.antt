-- A file that unfolds has few labels, and is refused as its layout is.
use Rattle.std.proofs.Common.{◌≡◌, ℕ, ◌<◌, ◌≤◌, ◌^◌, inl, inr, List, [], ◌∷◌, length, refl, sym, ap, ◌∙◌, arith}
use Rattle.std.proofs.lemmas.Bool.{cases_order}
use Rattle.std.proofs.lemmas.List.{length-map, length-append}
use Rattle.std.proofs.lemmas.List.Sums.{sum_by-cons}
use Rattle.cif_reader.specs.File.{Contents}
use Rattle.cif_reader.specs.declared.file.What.{What}
use Rattle.cif_reader.specs.declared.file.What.TheVariants.{Draw, Call, Mark}
use Rattle.cif_flatten.specs.declared.refusal.FlattenRefusal.TheVariants.{TooManyEdges}
use Rattle.cif_flatten.specs.Flat.{Lists}
use Rattle.cif_flatten.specs.Unfolding.{Placed, marked_by, marked, weight, weight_among}
use Rattle.cif_flatten.specs.Faults.{most_weight}
use Rattle.cif_flatten.specs.Flattening.{IsFlattened, marked_of}
use Rattle.plane_geom.specs.Placement.{Step}
use Rattle.layer_map.specs.Plan.{Plan}
use Rattle.layout_extract.specs.declared.refusal.LayoutRefusal.{LayoutRefusal}
use Rattle.layout_extract.specs.declared.refusal.LayoutRefusal.TheVariants.{Flat, TooManyNets, LabelAmbiguous, NoMemory}
use Rattle.layout_extract.specs.Layouts.{RefusesNaming, RefusesLayout}

one_mark : (steps : List Step) (depth pos : ℕ) (what : What) → length (marked_by steps depth pos what) ≤ weight what
one_mark steps depth pos (Draw layer shape) = omega arith
one_mark steps depth pos (Call number place) = omega arith
one_mark steps depth pos (Mark name at layer) = omega arith

marked_weight : (placed : List Placed) → length (marked placed) ≤ weight_among placed
marked_weight [] = omega arith
marked_weight (c ∷ cs) =
    let one = one_mark c.steps c.depth c.item.pos c.item.what in
    let rest = marked_weight cs in
    let front = length-append (marked_by c.steps c.depth c.item.pos c.item.what) (marked cs) in
    let sum = sum_by-cons (λ (c : Placed). weight c.item.what) c cs in
    omega (arith, one, rest, front, sum)

most_is : most_weight ≡ 32768
unfolding most_weight
most_is = refl

pub few_marks : (file : Contents) (lists : Lists) → IsFlattened file lists → length lists.marks < 2 ^ 32
few_marks file lists h = elim (cases_order (weight_among h.placed) most_weight) [
  | inl same ↦ let le : weight_among h.placed ≤ most_weight = omega (arith, same) in by_weight le
  | inr (inl less) ↦ let le : weight_among h.placed ≤ most_weight = omega (arith, less) in by_weight le
  | inr (inr more) ↦ absurd (h.sound.none TooManyEdges (record { placed = h.placed; unfolded = h.unfolded; much = more }))
]
  where
    by_weight : weight_among h.placed ≤ most_weight → length lists.marks < 2 ^ 32
    by_weight le =
        let size = sym (length-map lists.marks marked_of) ∙ ap (λ ms. length ms) h.marks in
        let within = marked_weight h.placed in
        let most = most_is in
        omega (arith, size, within, le, most)

pub refuses_from : (file : Contents) (plan : Plan) (lists : Lists) → IsFlattened file lists → (refusal : LayoutRefusal) → RefusesNaming plan lists refusal → RefusesLayout file plan refusal
refuses_from file plan lists flat (Flat refusal) h = absurd h
refuses_from file plan lists flat TooManyNets h = record { lists = lists; flat = flat; refused = h }
refuses_from file plan lists flat (LabelAmbiguous place) h = record { lists = lists; flat = flat; refused = h }
refuses_from file plan lists flat NoMemory h = tt
