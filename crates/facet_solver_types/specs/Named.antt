-- Names that are declared, of which no two may be the same.
use Rattle.std.specs.Prelude.{ℕ, Bool, if◌then◌else◌, List, [], ◌∷◌, ◌++◌, map}
use Rattle.std.specs.List.{flat_map, list_any}
use Rattle.facet_solver_shape.specs.Names.{Name, name_eq}
use Rattle.facet_solver_types.specs.declared.fault.Fault.{Fault}
use Rattle.facet_solver_types.specs.declared.fault.Fault.TheVariants.{At}
use Rattle.facet_solver_types.specs.declared.problem.Problem.TheVariants.{OfType}
use Rattle.facet_solver_types.specs.declared.type_problem.TypeProblem.{TypeProblem}
use Rattle.facet_solver_types.specs.declared.type_problem.TypeProblem.TheVariants.{Twice, ReadTwice}
use Rattle.facet_solver_types.specs.declared.typing.named.Named as declared
use Rattle.facet_solver_types.specs.Understood.{Declared, DeclaredField, DeclaredVariant, struct, enum}

-- a name, and where it stands
pub record Named : Type 0 where
  pub name : Name
  pub offset : ℕ

-- what is seen of a name
abbrev pub named_view : declared.Named → Named
named_view n = record { name = n.name.now; offset = n.offset }

-- what is seen of names
abbrev pub names_view : List declared.Named → List Named
names_view names = map named_view names

-- whether one of some has this name
abbrev pub is_among : Name → List Named → Bool
is_among name names = list_any (λ one. name_eq one.name name) names

-- the fault of a name
abbrev pub name_fault : TypeProblem → Named → Fault
name_fault problem one = At one.offset (OfType problem)

-- the fault of a name that is among others, if it is
abbrev pub repeat : TypeProblem → List Named → Named → List Fault
repeat problem before one = if is_among one.name before then name_fault problem one ∷ [] else []

-- the faults of names that are those of others before them
abbrev pub repeats_behind : TypeProblem → List Named → List Named → List Fault
repeats_behind problem before [] = []
repeats_behind problem before (one ∷ others) =
    repeat problem before one ++ repeats_behind problem (before ++ one ∷ []) others

-- the same, where none stands before all
abbrev pub repeats : TypeProblem → List Named → List Fault
repeats problem names = repeats_behind problem [] names

-- the names of fields
abbrev pub field_names : List DeclaredField → List Named
field_names fields = map (λ f. record { name = f.name; offset = f.offset }) fields

-- the names of variants, as they are written
abbrev pub variant_names : List DeclaredVariant → List Named
variant_names variants = map (λ v. record { name = v.written_name; offset = v.offset }) variants

-- the names of variants in a document
abbrev pub read_names : List DeclaredVariant → List Named
read_names variants = map (λ v. record { name = v.name; offset = v.offset }) variants

-- the faults of fields that have the name of another before them
abbrev pub field_repeats : List DeclaredField → List Fault
field_repeats fields = repeats Twice (field_names fields)

-- the faults of variants that have the name of another before them, as it is written
abbrev pub written_repeats : List DeclaredVariant → List Fault
written_repeats variants = repeats Twice (variant_names variants)

-- the faults of variants that go by the name of another before them in a document
abbrev pub read_repeats : List DeclaredVariant → List Fault
read_repeats variants = repeats ReadTwice (read_names variants)

-- the faults of variants, and of the fields of each, that have the name of another
abbrev pub variant_repeats : List DeclaredVariant → List Fault
variant_repeats variants =
    written_repeats variants ++ (read_repeats variants
    ++ flat_map (λ (v : DeclaredVariant). field_repeats v.fields) variants)

-- the faults of names in a declaration that are those of others before them
abbrev pub name_faults : Declared → List Fault
name_faults (struct kind fields is_transparent says_so is_container) = field_repeats fields
name_faults (enum variants tagging) = variant_repeats variants
name_faults other = []
