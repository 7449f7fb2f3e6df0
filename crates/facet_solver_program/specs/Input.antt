-- The input that a JSON value stands for.
use Rattle.std.specs.Prelude.{ℕ, List, Option, Some, codes, map}
use Rattle.serde_json.specs.Data.{Data, Members}
use Rattle.serde_json.specs.Find.{get, as_str, as_array, as_object}
use Rattle.serde_json.specs.View.{members_view}
use Rattle.facet_solver_program.specs.declared.decode.word.Builder.{Builder}
use Rattle.facet_solver_program.specs.declared.decode.word.Builder.TheVariants.{Flattened}
use Rattle.facet_solver_program.specs.declared.decode.input.Input.{Input as Decoded}
use Rattle.facet_solver_program.specs.ShapeView.{ShapeView, shape_view}
use Rattle.facet_solver_program.specs.Catalogue as catalogue
use Rattle.facet_solver_program.specs.Members.{given, each, or_absent, index_at}
use Rattle.facet_solver_program.specs.Words as words

-- what an input says
pub record Input : Type 0 where
  pub shapes : List ShapeView
  pub root : ℕ
  pub builder : Builder
  pub document : Members

-- of an input that was decoded
abbrev pub input_view : Decoded → Input
input_view i = record {
  shapes = map shape_view i.shapes.items;
  root = i.root;
  builder = i.builder;
  document = members_view i.document.now.entries;
}

-- the shapes
abbrev pub shapes_at : Data → Option (List ShapeView)
shapes_at d = given (given (get (codes "shapes") d) as_array) (each catalogue.shape)

-- the builder
abbrev pub builder_at : Data → Option Builder
builder_at d =
    or_absent Flattened (λ t. given (as_str t) words.named_builder) (get (codes "build") d)

-- the document's members
abbrev pub document_at : Data → Option Members
document_at d = given (get (codes "document") d) as_object

-- the input
abbrev pub decode : Data → Option Input
decode d =
    given (shapes_at d) (λ shapes.
    given (index_at (codes "root") d) (λ root.
    given (builder_at d) (λ builder.
    given (document_at d) (λ document.
    Some record { shapes = shapes; root = root; builder = builder; document = document }))))
