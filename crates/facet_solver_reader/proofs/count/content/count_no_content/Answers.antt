-- An object in memory has no members where the test says so.
use Rattle.std.proofs.Common.{◌≡◌, ◌≢◌, ◌∙◌, ap, true, false, length, rules}
use Rattle.facet_solver_reader.specs.Documents.{view}
use Rattle.facet_solver_reader.proofs.CountingValues.{count_of_empty}
use Rattle.facet_solver_reader.proofs.Seen.{seen_object}
use Rattle.facet_solver_reader.proofs.count.content.count_no_content.Goals as goal

pub returns-in-Object : goal.returns-in-Object
returns-in-Object c =
    let empty : c.is_empty.result ≡ true → length c.in-Object.members.items ≡ 0 =
    λ e. search (rules, e) in
    let some : c.is_empty.result ≡ false → length c.in-Object.members.items ≢ 0 =
    λ e none. search (rules, e, none) in
    rw (ap view c.in-Object.is ∙ seen_object c.in-Object.members, c.from.ensures)
    (count_of_empty c.in-Object.members.items c.is_empty.result empty some)
