-- Counts of pairs and of what is apart.
use Rattle.std.proofs.Common.{◌≢◌, ap, ◌∙◌, subst, ⊎_elim}
use Rattle.facet_solver_reader.specs.declared.count.Count.{Count}
use Rattle.facet_solver_reader.specs.declared.count.Count.TheVariants.{None, One, Several}
use Rattle.facet_solver_reader.specs.Counted.{Counted, times, plus, IsOnly}
use Rattle.facet_solver_reader.proofs.Joined.{AreJoined, AreApart, AreImages}

-- properties of the same values have one count
pub counted_same : {X : Type 0} (P Q : X → Type 0) (n : Count)
    → ((x : X) → P x → Q x) → ((x : X) → Q x → P x) → Counted P n → Counted Q n
counted_same P Q None f g h = λ x q. h x (g x q)
counted_same P Q One f g h =
    record { value = h.value; has = f h.value h.has; only = λ x q. h.only x (g x q) }
counted_same P Q Several f g h =
    record {
      first = h.first;
      second = h.second;
      has_first = f h.first h.has_first;
      has_second = f h.second h.has_second;
      differ = h.differ;
    }

module _ {X Y Z : Type 0} (P : X → Type 0) (Q : Y → Type 0) (W : Z → Type 0)
    (join : X → Y → Z) where
  -- pairs are the product
  pub counted_times : (a b : Count)
      → AreJoined P Q W join → Counted P a → Counted Q b → Counted W (times a b)
  counted_times None b j p q = λ z w. let f = j.part z w in p f.first f.has_first
  counted_times One None j p q = λ z w. let f = j.part z w in q f.second f.has_second
  counted_times One One j p q =
      record {
        value = join p.value q.value;
        has = j.into p.value q.value p.has q.has;
        only = λ z w.
            let f = j.part z w in
            f.is_joined
            ∙ ap (λ x. join x f.second) (p.only f.first f.has_first)
            ∙ ap (λ y. join p.value y) (q.only f.second f.has_second);
      }
  counted_times One Several j p q =
      record {
        first = join p.value q.first;
        second = join p.value q.second;
        has_first = j.into p.value q.first p.has q.has_first;
        has_second = j.into p.value q.second p.has q.has_second;
        differ = λ e. q.differ (j.same_second p.value p.value q.first q.second e);
      }
  counted_times Several None j p q = λ z w. let f = j.part z w in q f.second f.has_second
  counted_times Several One j p q =
      record {
        first = join p.first q.value;
        second = join p.second q.value;
        has_first = j.into p.first q.value p.has_first q.has;
        has_second = j.into p.second q.value p.has_second q.has;
        differ = λ e. p.differ (j.same_first p.first p.second q.value q.value e);
      }
  counted_times Several Several j p q =
      record {
        first = join p.first q.first;
        second = join p.second q.first;
        has_first = j.into p.first q.first p.has_first q.has_first;
        has_second = j.into p.second q.first p.has_second q.has_first;
        differ = λ e. p.differ (j.same_first p.first p.second q.first q.first e);
      }

  -- of a pair that is the only one, the first is the only first
  pub only_first : AreJoined P Q W join → IsOnly W → IsOnly P
  only_first j w =
      let f = j.part w.value w.has in
      record {
        value = f.first;
        has = f.has_first;
        only = λ x p.
            j.same_first x f.first f.second f.second
            (w.only (join x f.second) (j.into x f.second p f.has_second) ∙ f.is_joined);
      }

  -- and the second is the only second
  pub only_second : AreJoined P Q W join → IsOnly W → IsOnly Q
  only_second j w =
      let f = j.part w.value w.has in
      record {
        value = f.second;
        has = f.has_second;
        only = λ y q.
            j.same_second f.first f.first y f.second
            (w.only (join f.first y) (j.into f.first y f.has_first q) ∙ f.is_joined);
      }

module _ {Z : Type 0} (P Q W : Z → Type 0) where
  -- values that are apart differ
  pub differ_apart : AreApart P Q W → (x y : Z) → P x → Q y → x ≢ y
  differ_apart a x y p q e = a.apart y (subst P e p) q

  -- what is apart is the sum
  pub counted_plus : (a b : Count)
      → AreApart P Q W → Counted P a → Counted Q b → Counted W (plus a b)
  counted_plus None b j p q =
      counted_same Q W b j.into_second
      (λ z w. ⊎_elim (λ (h : P z). absurd (p z h)) (λ (h : Q z). h) (j.out z w)) q
  counted_plus One None j p q =
      record {
        value = p.value;
        has = j.into_first p.value p.has;
        only = λ z w.
            ⊎_elim (λ (h : P z). p.only z h) (λ (h : Q z). absurd (q z h)) (j.out z w);
      }
  counted_plus One One j p q =
      record {
        first = p.value;
        second = q.value;
        has_first = j.into_first p.value p.has;
        has_second = j.into_second q.value q.has;
        differ = differ_apart j p.value q.value p.has q.has;
      }
  counted_plus One Several j p q =
      record {
        first = q.first;
        second = q.second;
        has_first = j.into_second q.first q.has_first;
        has_second = j.into_second q.second q.has_second;
        differ = q.differ;
      }
  counted_plus Several b j p q =
      record {
        first = p.first;
        second = p.second;
        has_first = j.into_first p.first p.has_first;
        has_second = j.into_first p.second p.has_second;
        differ = p.differ;
      }

module _ {X Z : Type 0} (P : X → Type 0) (W : Z → Type 0) (image : X → Z) where
  -- images are as many
  pub counted_images : (n : Count) → AreImages P W image → Counted P n → Counted W n
  counted_images None j p = λ z w. let f = j.out z w in p f.0 f.1
  counted_images One j p =
      record {
        value = image p.value;
        has = j.into p.value p.has;
        only = λ z w. let f = j.out z w in f.2 ∙ ap image (p.only f.0 f.1);
      }
  counted_images Several j p =
      record {
        first = image p.first;
        second = image p.second;
        has_first = j.into p.first p.has_first;
        has_second = j.into p.second p.has_second;
        differ = λ e. p.differ (j.same p.first p.second e);
      }

  -- an image that is the only one is of the only value
  pub only_of_images : AreImages P W image → IsOnly W → IsOnly P
  only_of_images j w =
      let f = j.out w.value w.has in
      record {
        value = f.0;
        has = f.1;
        only = λ x p. j.same x f.0 (w.only (image x) (j.into x p) ∙ f.2);
      }
