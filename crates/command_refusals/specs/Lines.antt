-- The line of diagnostics of each refusal, and its exit status.
use Rattle.std.specs.Prelude.{ℕ, List, [], ◌∷◌, codes}
use Rattle.std.specs.List.{concat}
use Rattle.std.specs.Fmt.{decimal}
use Rattle.cif_reader.specs.declared.refusal.CifRefusal.{CifRefusal}
use Rattle.cif_reader.specs.declared.refusal.CifRefusal.TheVariants.{CifTooLong, Syntax, NumberTooLarge, Unsupported, NotManhattan, NoLayer, TwiceDefined, ZeroScale, OffGrid, BadLabel, TooManyPoints, NoMemory as OutOfMemory}
use Rattle.cif_reader.specs.declared.refusal.Feature.TheVariants.{Round, DefDelete}
use Rattle.layer_map.specs.declared.refusal.MapRefusal.{MapRefusal}
use Rattle.layer_map.specs.declared.refusal.MapRefusal.TheVariants.{MapTooLong, BadLine, UnknownWire, Unbounded, TwiceNamed, NoSupplyLine, TooMany, NoMemory as NoMapMemory}
use Rattle.layer_map.specs.declared.refusal.Side.TheVariants.{High, Low}
use Rattle.cif_flatten.specs.declared.refusal.FlattenRefusal.{FlattenRefusal}
use Rattle.cif_flatten.specs.declared.refusal.FlattenRefusal.TheVariants.{Undefined, Recursive, TooManyCalls, TooManyEdges, OutOfRange, TooFine, NoMemory as NoFlatMemory}
use Rattle.layout_extract.specs.declared.refusal.LayoutRefusal.{LayoutRefusal}
use Rattle.layout_extract.specs.declared.refusal.LayoutRefusal.TheVariants.{Flat, TooManyNets, LabelAmbiguous, NoMemory as NoLayoutMemory}
use Rattle.defect_sweep.specs.declared.refusal.SweepRefusal.{SweepRefusal}
use Rattle.defect_sweep.specs.declared.refusal.SweepRefusal.TheVariants.{TooManyBridges, NoMemory as NoSweepMemory}
use Rattle.clause_base.specs.declared.faults.FormulaFault.{FormulaFault}
use Rattle.clause_base.specs.declared.faults.FormulaFault.TheVariants.{TooLong, Syntax as FormulaSyntax, TooLarge, NoMemory as NoFormulaMemory}
use Rattle.command_refusals.specs.declared.refusal.WordRefusal.{WordRefusal}
use Rattle.command_refusals.specs.declared.refusal.WordRefusal.TheVariants.{Usage, BadSide, BadBudget}
use Rattle.command_refusals.specs.declared.refusal.Refusal.{Refusal}
use Rattle.command_refusals.specs.declared.refusal.Refusal.TheVariants.{Words, Map, Cif, Layout, Sweep, Formula}

-- a refusal's name and a place in the text
abbrev pub place_line : List ℕ → ℕ → List ℕ
place_line name place = concat (codes "carafe: " ∷ name ∷ codes " " ∷ decimal place ∷ codes "\n" ∷ [])

-- a feature that is not read, at a place
abbrev pub unsupported_line : ℕ → List ℕ → List ℕ
unsupported_line place name = concat (codes "carafe: Unsupported " ∷ decimal place ∷ codes " " ∷ name ∷ codes "\n" ∷ [])

-- the line of a refused layout
abbrev pub cif_line : CifRefusal → List ℕ
cif_line CifTooLong = codes "carafe: CifTooLong\n"
cif_line (Syntax place) = place_line (codes "Syntax") place
cif_line (NumberTooLarge place) = place_line (codes "NumberTooLarge") place
cif_line (Unsupported place Round) = unsupported_line place (codes "Round")
cif_line (Unsupported place DefDelete) = unsupported_line place (codes "DefDelete")
cif_line (NotManhattan place) = place_line (codes "NotManhattan") place
cif_line (NoLayer place) = place_line (codes "NoLayer") place
cif_line (TwiceDefined place) = place_line (codes "TwiceDefined") place
cif_line (ZeroScale place) = place_line (codes "ZeroScale") place
cif_line (OffGrid place) = place_line (codes "OffGrid") place
cif_line (BadLabel place) = place_line (codes "BadLabel") place
cif_line (TooManyPoints place) = place_line (codes "TooManyPoints") place
cif_line OutOfMemory = codes "carafe: NoMemory\n"

-- the line of a refused map
abbrev pub map_line : MapRefusal → List ℕ
map_line MapTooLong = codes "carafe: MapTooLong\n"
map_line (BadLine line) = place_line (codes "BadLine") line
map_line (UnknownWire line) = place_line (codes "UnknownWire") line
map_line (Unbounded line) = place_line (codes "Unbounded") line
map_line (TwiceNamed line) = place_line (codes "TwiceNamed") line
map_line (NoSupplyLine High) = codes "carafe: NoSupplyLine high\n"
map_line (NoSupplyLine Low) = codes "carafe: NoSupplyLine low\n"
map_line (TooMany line) = place_line (codes "TooMany") line
map_line NoMapMemory = codes "carafe: NoMemory\n"

-- a call at a place that names no symbol
abbrev pub undefined_line : ℕ → ℕ → List ℕ
undefined_line place symbol = concat (codes "carafe: Undefined " ∷ decimal place ∷ codes " " ∷ decimal symbol ∷ codes "\n" ∷ [])

-- the line of a layout that is not unfolded
abbrev pub flat_line : FlattenRefusal → List ℕ
flat_line (Undefined place symbol) = undefined_line place symbol
flat_line (Recursive symbol) = place_line (codes "Recursive") symbol
flat_line TooManyCalls = codes "carafe: TooManyCalls\n"
flat_line TooManyEdges = codes "carafe: TooManyEdges\n"
flat_line (OutOfRange place) = place_line (codes "OutOfRange") place
flat_line TooFine = codes "carafe: TooFine\n"
flat_line NoFlatMemory = codes "carafe: NoMemory\n"

-- the line of a layout whose nets are not named
abbrev pub layout_line : LayoutRefusal → List ℕ
layout_line (Flat refusal) = flat_line refusal
layout_line TooManyNets = codes "carafe: TooManyNets\n"
layout_line (LabelAmbiguous place) = place_line (codes "LabelAmbiguous") place
layout_line NoLayoutMemory = codes "carafe: NoMemory\n"

-- the line of a layout with too many bridges
abbrev pub sweep_line : SweepRefusal → List ℕ
sweep_line TooManyBridges = codes "carafe: TooManyBridges\n"
sweep_line NoSweepMemory = codes "carafe: NoMemory\n"

-- the line of a refused formula
abbrev pub formula_line : FormulaFault → List ℕ
formula_line TooLong = codes "carafe: FormulaTooLong\n"
formula_line (FormulaSyntax place) = place_line (codes "FormulaSyntax") place
formula_line (TooLarge place) = place_line (codes "FormulaTooLarge") place
formula_line NoFormulaMemory = codes "carafe: NoMemory\n"

-- the line of refused words
abbrev pub word_line : WordRefusal → List ℕ
word_line Usage = codes "carafe: Usage\n"
word_line BadSide = codes "carafe: BadSide\n"
word_line BadBudget = codes "carafe: BadBudget\n"

-- the line of a refusal
abbrev pub refusal_line : Refusal → List ℕ
refusal_line (Words refusal) = word_line refusal
refusal_line (Map refusal) = map_line refusal
refusal_line (Cif refusal) = cif_line refusal
refusal_line (Layout refusal) = layout_line refusal
refusal_line (Sweep refusal) = sweep_line refusal
refusal_line (Formula fault) = formula_line fault

-- the exit status of the program
abbrev pub refusal_exit : Refusal → ℕ
refusal_exit (Words refusal) = 3
refusal_exit refusal = 2
