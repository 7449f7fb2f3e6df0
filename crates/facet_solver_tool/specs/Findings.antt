-- What a check finds.
use Rattle.std.specs.Prelude.{◌&&◌, Bool, ℕ, List, map, not, string_bytes, if◌then◌else◌}
use Rattle.std.specs.List.{list_any}
use Rattle.facet_solver_shape.specs.Names.{Name}
use Rattle.facet_solver_witnesses.specs.declared.ambiguity.Ambiguity.{Ambiguity}
use Rattle.facet_solver_tool.specs.declared.check.finding.Finding as finding
use Rattle.facet_solver_tool.specs.declared.status.Status.{Status}
use Rattle.facet_solver_tool.specs.declared.status.Status.TheVariants.{Answered, Ambiguous, MaybeAmbiguous, Outdated}
use Rattle.facet_solver_tool.specs.AmbiguityKeys.{key}
use Rattle.facet_solver_tool.specs.Checks.{is_accepted_by, is_witness}

-- a finding: an ambiguity, what names it in a file of accepted ones, and whether it is one of these
pub record Finding : Type 0 where
  pub ambiguity : Ambiguity
  pub key : Name
  pub is_accepted : Bool

-- what is seen of one
abbrev pub finding_view : finding.Finding → Finding
finding_view f = record {
  ambiguity = f.ambiguity.now;
  key = string_bytes f.key;
  is_accepted = f.is_accepted;
}

-- that of an ambiguity, beside the lines of accepted ones
abbrev pub finding_of : List (List ℕ) → Ambiguity → Finding
finding_of lines a =
    record { ambiguity = a; key = key a; is_accepted = is_accepted_by lines (key a) }

-- what names those of several
abbrev pub keys_view : List finding.Finding → List Name
keys_view findings = map (λ f. string_bytes f.key) findings

-- whether a document shows one
abbrev pub is_shown : Finding → Bool
is_shown f = is_witness f.ambiguity.evidence

-- whether one counts
abbrev pub counts : Finding → Bool
counts f = not f.is_accepted

-- whether one counts that a document shows
abbrev pub counts_as_shown : Finding → Bool
counts_as_shown f = is_shown f && not f.is_accepted

-- how a check ends that has some findings, and accepted lines all of which accept one, or not
abbrev pub end_of : List Finding → Bool → Status
end_of findings are_all_needed =
    if list_any counts_as_shown findings then Ambiguous
    else if list_any counts findings then MaybeAmbiguous
    else if are_all_needed then Answered
    else Outdated
