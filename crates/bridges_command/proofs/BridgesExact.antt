-- The words of `bridges` have one refusal at most, none beside a report, and one report at most.
use Rattle.std.proofs.Common.{◌≡◌, ℕ, List, [], ◌∷◌, Some, sym, ◌∙◌, ap, subst, arith}
use Rattle.probe_io.specs.Files.{File}
use Rattle.layer_map.specs.Plan.{wire_names}
use Rattle.net_trace.specs.Touching.{Nets}
use Rattle.net_trace.specs.Same.{AreSameNets}
use Rattle.defect_sweep.specs.declared.sides.SideWeight.{SideWeight}
use Rattle.defect_sweep.specs.Counting.{BridgeCount}
use Rattle.defect_sweep.specs.Bridges.{HasManyBridges}
use Rattle.defect_sweep.proofs.OneCounting.{many}
use Rattle.defect_sweep.proofs.TracedCounts.{counts_alike, many_alike}
use Rattle.bridge_rank.specs.Ranking.{IsRanked, IsRanking}
use Rattle.bridge_rank.proofs.Ranks.{one_ranking}
use Rattle.command_base.specs.declared.endings.Ending.{Ending}
use Rattle.command_base.specs.Exact.{AreAlike, IsExact}
use Rattle.command_base.proofs.Alike.{exact_job, spelled_alike, refused_alike, layers_alike, just_alike, then_alike, then_exact}
use Rattle.command_inputs.specs.Stages.{MappedNets, layout_stage}
use Rattle.command_inputs.proofs.SideLemmas.{one_word}
use Rattle.command_inputs.proofs.StageLemmas.{AreSameMapped, layout_alike, one_mapped}
use Rattle.bridges_command.specs.Report.{report_text}
use Rattle.bridges_command.specs.Command.{Subject, ranked_stage, subject_stage, bridges_job, text_on}
use Rattle.bridges_command.specs.Reports.{AreOneReport}

-- a ranked list has no more bridges than may be
not_many : (a b : Nets) (sides : List SideWeight) (ranked : List BridgeCount) → AreSameNets b a → IsRanking a sides ranked → HasManyBridges b sides → ⊥
not_many a b sides ranked same ranking more = let over = many a sides ranking.counts ranking.counted (many_alike b a sides same more) in omega (arith, over, ranking.few)

ranked_alike : (map cif : List ℕ) (files : List File) (sides : List SideWeight) (a b : MappedNets) → (layout_stage map cif).gives (Some files) a → (layout_stage map cif).gives (Some files) b
    → AreAlike (ranked_stage a sides) (ranked_stage b sides) files
ranked_alike map cif files sides a b here there = layers_alike
    (λ l m r q is is' fault fault'. fault.is ∙ sym fault'.is)
    (λ ranked l r is ranking fault. not_many a.named.nets b.named.nets sides ranked (one_mapped map cif files b a there here).named.nets ranking fault.many)
    (λ ranked l r is ranking fault. not_many b.named.nets a.named.nets sides ranked (one_mapped map cif files a b here there).named.nets ranking fault.many)

subject_alike : (map cif word : List ℕ) (files : List File) → AreAlike (subject_stage map cif word) (subject_stage map cif word) files
subject_alike map cif word files = then_exact spelled_alike (λ a b spells spells'. one_word word a b spells spells') (λ sides spells. then_alike (layout_alike map cif files)
    (λ a b here there. then_alike (ranked_alike map cif files sides a b here there) (λ ranked others h t. just_alike)))

pub bridges_exact : (words : List (List ℕ)) (files : List File) → IsExact (bridges_job words) files
bridges_exact [] files = exact_job refused_alike
bridges_exact (a ∷ []) files = exact_job refused_alike
bridges_exact (a ∷ b ∷ []) files = exact_job refused_alike
bridges_exact (map ∷ cif ∷ word ∷ []) files = exact_job (subject_alike map cif word files)
bridges_exact (a ∷ b ∷ c ∷ d ∷ more) files = exact_job refused_alike

-- the bridges of the same nets are listed in one order
one_ranked : (a b : Nets) (sides : List SideWeight) (ranked others : List BridgeCount) → AreSameNets a b → IsRanking a sides ranked → IsRanking b sides others → ranked ≡ others
one_ranked a b sides ranked others same here there =
    one_ranking b sides there.counts ranked others there.counted
    (subst (λ counts. IsRanked counts ranked) (counts_alike a b sides here.counts there.counts same here.counted there.counted) here.ranks) there.ranks

-- the reports of two subjects that are the same
same_texts : (s t : Subject) → s.sides ≡ t.sides → AreSameMapped s.mapped t.mapped → s.ranked ≡ t.ranked → text_on s ≡ text_on t
same_texts s t sides mapped ranked =
    λ i. report_text (sides i) (wire_names (mapped.plan i)) (mapped.named.names i) (record { bound = mapped.named.bound i; unbound = mapped.named.unbound i; deep = mapped.named.deep i }) (ranked i)

one_text : (map cif word : List ℕ) (files : List File) (s t : Subject) → (subject_stage map cif word).gives (Some files) s → (subject_stage map cif word).gives (Some files) t → text_on s ≡ text_on t
one_text map cif word files s t here there =
    let sides = one_word word here.value there.value here.given there.given in
    let layout = here.holds in
    let layout' = there.holds in
    let last = layout.holds in
    let last' = layout'.holds in
    let mapped = one_mapped map cif files layout.value layout'.value layout.given layout'.given in
    let ranked = one_ranked layout.value.named.nets layout'.value.named.nets there.value last.value last'.value mapped.named.nets
    (subst (λ list. IsRanking layout.value.named.nets list last.value) sides last.given) last'.given in
    ap text_on last.holds ∙ same_texts _ _ sides mapped ranked ∙ sym (ap text_on last'.holds)

pub one_report : (words : List (List ℕ)) (files : List File) (ending ending' : Ending) (text other : List ℕ) → AreOneReport words files ending ending' text other
one_report [] files ending ending' text other here there = absurd here.given
one_report (a ∷ []) files ending ending' text other here there = absurd here.given
one_report (a ∷ b ∷ []) files ending ending' text other here there = absurd here.given
one_report (map ∷ cif ∷ word ∷ []) files ending ending' text other here there =
    (here.holds.0 ∙ sym there.holds.0, here.holds.1 ∙ one_text map cif word files here.value there.value here.given there.given ∙ sym there.holds.1)
one_report (a ∷ b ∷ c ∷ d ∷ more) files ending ending' text other here there = absurd here.given
