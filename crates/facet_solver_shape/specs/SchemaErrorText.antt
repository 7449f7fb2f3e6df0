-- The text of an error of a schema, byte for byte.
use Rattle.std.specs.Prelude.{ℕ, List, ◌++◌, codes}
use Rattle.facet_solver_shape.specs.Paths.{path_text}
use Rattle.facet_solver_shape.specs.declared.resolution.error.SchemaError.{SchemaError}
use Rattle.facet_solver_shape.specs.declared.resolution.error.SchemaError.TheVariants.{DuplicateField, OutOfMemory}

-- the sentence that follows the paths
abbrev pub usual_reason : List ℕ
usual_reason =
    codes ". This usually means a parent struct and a flattened struct "
    ++ codes "both define a field with the same name."

-- the text: of a second field of one key its name and both paths, the first path first
abbrev pub schema_error_text : SchemaError → List ℕ
schema_error_text (DuplicateField d) = codes "Duplicate field name '"
    ++ (d.field_name.now
    ++ (codes "' from different sources: "
    ++ (path_text d.first_path
    ++ (codes " vs "
    ++ (path_text d.second_path
    ++ usual_reason)))))
schema_error_text OutOfMemory = codes "out of memory"
