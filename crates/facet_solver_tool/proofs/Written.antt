-- What is written while lines are answered.
use Rattle.std.proofs.Common.{◌≡◌, ◌⊎◌, ◌∙◌, ◌++◌, Bool, ℕ, List, [], ◌∷◌, Option, None, Some, append-nil, append_assoc, ap, inl, inr, refl, subst, sym}
use Rattle.std.proofs.lemmas.List.{flat_map_more}
use Rattle.std.specs.Io.KnownBytes.{Appends}
use Rattle.facet_solver_tool.specs.declared.status.Status.TheVariants.{Misused}
use Rattle.facet_solver_tool.specs.Answer.{Answer, refused}
use Rattle.facet_solver_tool.specs.Lines.{Shows, WritesAnswers, answer_line}
use Rattle.facet_solver_tool.specs.Streams.{Ran, Streams, EndsWith, WritesLine}

appends_none : (a : Option (List ℕ)) → Appends a a []
appends_none None = tt
appends_none (Some xs) = sym (append-nil xs)

appends_both : (a b c : Option (List ℕ)) (xs ys : List ℕ) → Appends a b xs → Appends b c ys → Appends a c (xs ++ ys)
appends_both None b c xs ys p q = tt
appends_both (Some xs0) None c xs ys p q = absurd p
appends_both (Some xs0) (Some xs1) None xs ys p q = absurd q
appends_both (Some xs0) (Some xs1) (Some xs2) xs ys p q = q ∙ ap (λ l. l ++ ys) p ∙ append_assoc xs0 xs ys

-- what is shown twice
pub shows_both : (is_shown : Bool) (a b c : Option (List ℕ)) → Shows is_shown a b → Shows is_shown b c → Shows is_shown a c
shows_both is_shown a b c p q = (
  p.0 ++ q.0,
  (λ hidden. ap (λ l. l ++ q.0) (p.1 hidden) ∙ q.1 hidden),
  appends_both a b c p.0 q.0 p.2 q.2,
)

-- nothing yet
pub written_none : (is_shown : Bool) (s : Streams) → WritesAnswers is_shown s s []
written_none is_shown s = (appends_none s.output, ([], (λ hidden. refl), appends_none s.errors))

-- one answer more, and what is shown then
pub written_more : (is_shown : Bool) (before between after : Streams) (answers : List Answer) (a : Answer)
    → WritesAnswers is_shown before between answers → Appends between.output after.output (answer_line a)
    → Shows is_shown between.errors after.errors → WritesAnswers is_shown before after (answers ++ a ∷ [])
written_more is_shown before between after answers a p line shown = (
  subst (Appends before.output after.output) (flat_map_more answer_line [] answers a)
      (appends_both before.output between.output after.output _ (answer_line a) p.0 line),
  shows_both is_shown before.errors between.errors after.errors p.1 shown,
)

-- what tells no answer is a line on the errors, and nothing on the output
pub tells_error : (r : Ran) (a : Answer) → (a.status ≡ Misused) ⊎ (a ≡ refused) → EndsWith r a
    → Appends r.before.errors r.after.errors (a.text ++ 10 ∷ []) × (r.after.output ≡ r.before.output)
tells_error r a (inl status) tells =
    subst (λ s. WritesLine s r.before r.after (a.text ++ 10 ∷ [])) status tells.1
tells_error r a (inr is) tells =
    subst (λ s. WritesLine s r.before r.after (a.text ++ 10 ∷ [])) (ap (λ (b : Answer). b.status) is) tells.1
