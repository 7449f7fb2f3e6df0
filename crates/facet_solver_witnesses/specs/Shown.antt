-- What a witness shows.
use Rattle.std.specs.Prelude.{⊤, All, List}
use Rattle.facet_solver_reader.specs.Parts.{of_shape}
use Rattle.facet_solver_reader.specs.Readers.{ReaderView}
use Rattle.facet_solver_reader.specs.Types.{rules_of}
use Rattle.facet_solver_witnesses.specs.declared.ambiguity.Ambiguity.{Ambiguity}
use Rattle.facet_solver_witnesses.specs.declared.ambiguity.Evidence.{Evidence}
use Rattle.facet_solver_witnesses.specs.declared.ambiguity.Evidence.TheVariants as evidence
use Rattle.facet_solver_witnesses.specs.declared.value.Value.{Value}
use Rattle.facet_solver_witnesses.specs.Several.{HasSeveral}
use Rattle.facet_solver_witnesses.specs.Trees.{tree}

-- the document that a value is has several readings as the type of a reader
abbrev pub IsSeveral : ReaderView → Value → Type 0
IsSeveral r value = HasSeveral (rules_of r.shapes r.strict) (of_shape r.root) (tree value)

-- so has the document of a witness
abbrev pub IsShown : ReaderView → Evidence → Type 0
IsShown r (evidence.Witness document path ignored) = IsSeveral r document
IsShown r (evidence.MayBe cause) = ⊤

-- so have those of all ambiguities
abbrev pub AreShown : ReaderView → List Ambiguity → Type 0
AreShown r found = All (λ a. IsShown r a.evidence) found
