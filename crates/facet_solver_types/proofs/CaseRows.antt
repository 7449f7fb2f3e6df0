-- Names in the cases that `rename_all` knows, as serde has them: the definitions, row by row.
use Rattle.std.proofs.Common.{◌≡◌, Some, None, codes, refl}
use Rattle.facet_solver_types.specs.Cases.{field_in, named, variant_in}
use Rattle.facet_solver_types.specs.declared.case.Case.TheVariants.{Lower, Upper, Pascal, Camel}
use Rattle.facet_solver_types.specs.declared.case.Case.TheVariants.{Snake, ScreamingSnake, Kebab}
use Rattle.facet_solver_types.specs.declared.case.Case.TheVariants.{ScreamingKebab}

-- `Lower`
pub lower_rows :
    (variant_in Lower (codes "HTTPServer") ≡ codes "httpserver")
    × (variant_in Lower (codes "Http2") ≡ codes "http2")
    × (variant_in Lower (codes "X1") ≡ codes "x1")
    × (field_in Lower (codes "http_server") ≡ codes "http_server")
    × (field_in Lower (codes "x1") ≡ codes "x1")
    × (field_in Lower (codes "Id") ≡ codes "Id")
    × (field_in Lower (codes "_a") ≡ codes "_a")
lower_rows = (refl, refl, refl, refl, refl, refl, refl)

-- `Upper`
pub upper_rows :
    (variant_in Upper (codes "HTTPServer") ≡ codes "HTTPSERVER")
    × (variant_in Upper (codes "Http2") ≡ codes "HTTP2")
    × (variant_in Upper (codes "X1") ≡ codes "X1")
    × (field_in Upper (codes "http_server") ≡ codes "HTTP_SERVER")
    × (field_in Upper (codes "x1") ≡ codes "X1")
    × (field_in Upper (codes "Id") ≡ codes "ID")
    × (field_in Upper (codes "_a") ≡ codes "_A")
upper_rows = (refl, refl, refl, refl, refl, refl, refl)

-- `Pascal`
pub pascal_rows :
    (variant_in Pascal (codes "HTTPServer") ≡ codes "HTTPServer")
    × (variant_in Pascal (codes "Http2") ≡ codes "Http2")
    × (variant_in Pascal (codes "X1") ≡ codes "X1")
    × (field_in Pascal (codes "http_server") ≡ codes "HttpServer")
    × (field_in Pascal (codes "x1") ≡ codes "X1")
    × (field_in Pascal (codes "Id") ≡ codes "Id")
    × (field_in Pascal (codes "_a") ≡ codes "A")
    × (field_in Pascal (codes "") ≡ codes "")
    × (field_in Pascal (codes "__") ≡ codes "")
    × (field_in Pascal (codes "a__b") ≡ codes "AB")
pascal_rows = (refl, refl, refl, refl, refl, refl, refl, refl, refl, refl)

-- `Camel`
pub camel_rows :
    (variant_in Camel (codes "HTTPServer") ≡ codes "hTTPServer")
    × (variant_in Camel (codes "Http2") ≡ codes "http2")
    × (variant_in Camel (codes "X1") ≡ codes "x1")
    × (field_in Camel (codes "http_server") ≡ codes "httpServer")
    × (field_in Camel (codes "x1") ≡ codes "x1")
    × (field_in Camel (codes "Id") ≡ codes "id")
    × (field_in Camel (codes "_a") ≡ codes "a")
    × (variant_in Camel (codes "") ≡ codes "")
    × (field_in Camel (codes "__") ≡ codes "")
    × (field_in Camel (codes "_a_b_") ≡ codes "aB")
camel_rows = (refl, refl, refl, refl, refl, refl, refl, refl, refl, refl)

-- `Snake`
pub snake_rows :
    (variant_in Snake (codes "HTTPServer") ≡ codes "h_t_t_p_server")
    × (variant_in Snake (codes "Http2") ≡ codes "http2")
    × (variant_in Snake (codes "X1") ≡ codes "x1")
    × (field_in Snake (codes "http_server") ≡ codes "http_server")
    × (field_in Snake (codes "x1") ≡ codes "x1")
    × (field_in Snake (codes "Id") ≡ codes "Id")
    × (field_in Snake (codes "_a") ≡ codes "_a")
    × (variant_in Snake (codes "") ≡ codes "")
    × (variant_in Snake (codes "A_B") ≡ codes "a__b")
snake_rows = (refl, refl, refl, refl, refl, refl, refl, refl, refl)

-- `ScreamingSnake`
pub screaming_snake_rows :
    (variant_in ScreamingSnake (codes "HTTPServer") ≡ codes "H_T_T_P_SERVER")
    × (variant_in ScreamingSnake (codes "Http2") ≡ codes "HTTP2")
    × (variant_in ScreamingSnake (codes "X1") ≡ codes "X1")
    × (field_in ScreamingSnake (codes "http_server") ≡ codes "HTTP_SERVER")
    × (field_in ScreamingSnake (codes "x1") ≡ codes "X1")
    × (field_in ScreamingSnake (codes "Id") ≡ codes "ID")
    × (field_in ScreamingSnake (codes "_a") ≡ codes "_A")
screaming_snake_rows = (refl, refl, refl, refl, refl, refl, refl)

-- `Kebab`
pub kebab_rows :
    (variant_in Kebab (codes "HTTPServer") ≡ codes "h-t-t-p-server")
    × (variant_in Kebab (codes "Http2") ≡ codes "http2")
    × (variant_in Kebab (codes "X1") ≡ codes "x1")
    × (field_in Kebab (codes "http_server") ≡ codes "http-server")
    × (field_in Kebab (codes "x1") ≡ codes "x1")
    × (field_in Kebab (codes "Id") ≡ codes "Id")
    × (field_in Kebab (codes "_a") ≡ codes "-a")
    × (variant_in Kebab (codes "A_B") ≡ codes "a--b")
kebab_rows = (refl, refl, refl, refl, refl, refl, refl, refl)

-- `ScreamingKebab`
pub screaming_kebab_rows :
    (variant_in ScreamingKebab (codes "HTTPServer") ≡ codes "H-T-T-P-SERVER")
    × (variant_in ScreamingKebab (codes "Http2") ≡ codes "HTTP2")
    × (variant_in ScreamingKebab (codes "X1") ≡ codes "X1")
    × (field_in ScreamingKebab (codes "http_server") ≡ codes "HTTP-SERVER")
    × (field_in ScreamingKebab (codes "x1") ≡ codes "X1")
    × (field_in ScreamingKebab (codes "Id") ≡ codes "ID")
    × (field_in ScreamingKebab (codes "_a") ≡ codes "-A")
screaming_kebab_rows = (refl, refl, refl, refl, refl, refl, refl)

-- the names of cases
pub named_rows :
    (named (codes "lowercase") ≡ Some Lower)
    × (named (codes "UPPERCASE") ≡ Some Upper)
    × (named (codes "PascalCase") ≡ Some Pascal)
    × (named (codes "camelCase") ≡ Some Camel)
    × (named (codes "snake_case") ≡ Some Snake)
    × (named (codes "SCREAMING_SNAKE_CASE") ≡ Some ScreamingSnake)
    × (named (codes "kebab-case") ≡ Some Kebab)
    × (named (codes "SCREAMING-KEBAB-CASE") ≡ Some ScreamingKebab)
    × (named (codes "Snake") ≡ None)
    × (named (codes "snakecase") ≡ None)
    × (named (codes "") ≡ None)
    × (named (codes "SnakeCase") ≡ None)
    × (named (codes "LOWERCASE") ≡ None)
    × (named (codes "screaming_snake_case") ≡ None)
named_rows = (refl, refl, refl, refl, refl, refl, refl, refl, refl, refl, refl, refl, refl, refl)
