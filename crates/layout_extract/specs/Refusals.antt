-- How the refusals of the unfolding and of the tracing are told.
use Rattle.cif_flatten.specs.declared.refusal.FlattenRefusal.{FlattenRefusal}
use Rattle.cif_flatten.specs.declared.refusal.FlattenRefusal.TheVariants as flatten
use Rattle.net_trace.specs.declared.refusal.TraceRefusal.{TraceRefusal}
use Rattle.net_trace.specs.declared.refusal.TraceRefusal.TheVariants as trace
use Rattle.layout_extract.specs.declared.refusal.LayoutRefusal.{LayoutRefusal}
use Rattle.layout_extract.specs.declared.refusal.LayoutRefusal.TheVariants.{Flat, TooManyNets, NoMemory}

abbrev pub of_flatten : FlattenRefusal → LayoutRefusal
of_flatten flatten.NoMemory = NoMemory
of_flatten other = Flat other

abbrev pub of_trace : TraceRefusal → LayoutRefusal
of_trace trace.TooManyNets = TooManyNets
of_trace trace.NoMemory = NoMemory
