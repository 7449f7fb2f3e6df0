-- Why a text is no JSON at an offset where something else was wanted.
use Rattle.std.specs.Prelude.{ℕ, List, [], ◌∷◌, get_or, take, reverse, Bool, ◌==◌, ◌||◌, ◌&&◌, nat_le, if◌then◌else◌}
use Rattle.facet_solver_json.specs.declared.reason.Reason.{Reason}
use Rattle.facet_solver_json.specs.declared.reason.Reason.TheVariants as reason
use Rattle.facet_solver_json.specs.declared.value.Wanted.{Wanted}
use Rattle.facet_solver_json.specs.declared.value.Wanted.TheVariants as wanted

-- whether a byte stands between tokens
abbrev pub is_blank : ℕ → Bool
is_blank byte = byte == 32 || (byte == 9 || (byte == 10 || byte == 13))

-- the first byte that is no blank, or a blank
abbrev pub first_byte : List ℕ → ℕ
first_byte [] = 32
first_byte (byte ∷ bytes) = if is_blank byte then first_byte bytes else byte

-- the last byte before an offset that is no blank, or a blank
abbrev pub last_before : ℕ → List ℕ → ℕ
last_before offset text = first_byte (reverse (take offset text))

-- the byte at an offset of a text, or a blank at its end
abbrev pub byte_at : ℕ → List ℕ → ℕ
byte_at offset text = get_or text offset 32

-- whether an item may begin at an offset: a comma is before it, or what opens the list or object
abbrev pub begins_there : ℕ → List ℕ → ℕ → Bool
begins_there offset text opening =
    let last = last_before offset text in
    last == 44 || last == opening

-- whether a number begins with a byte: a minus or a digit
abbrev pub begins_number : ℕ → Bool
begins_number byte = byte == 45 || (nat_le 48 byte && nat_le byte 57)

-- why no value begins with a byte: a quote begins a text
abbrev pub no_value : ℕ → Reason
no_value byte =
    if byte == 34 then reason.Text
    else if begins_number byte then reason.Number
    else reason.Value

-- why a text is no JSON at an offset, by what was wanted there
abbrev pub reason_at : ℕ → List ℕ → Wanted → Reason
reason_at offset text wanted.Value = no_value (byte_at offset text)
reason_at offset text wanted.Item =
    if begins_there offset text 91 then no_value (byte_at offset text) else reason.InList
reason_at offset text wanted.Name =
    if begins_there offset text 123 then reason.Name else reason.InObject
reason_at offset text wanted.NoName = reason.NoName
reason_at offset text wanted.NoMore = reason.Behind
reason_at offset text wanted.LessDeep = reason.TooDeep
