-- Lines kept to one set-up agree as far as they go: so they are the first of the row, and the row is the only one.
use Rattle.std.proofs.Common.{◌≡◌, ℕ, zero, suc, ◌≤◌, ◌↔◌, List, [], ◌∷◌, ◌++◌, length, take, sym, refl, ap, ◌∙◌, subst, ap₂, inl, inr, arith}
use Rattle.std.proofs.lemmas.Bool.{cases_lt}
use Rattle.std.proofs.lemmas.List.{take_all}
use Rattle.monomials.specs.Monomials.{Mono}
use Rattle.monomials.specs.Orders.{Order, OrderLaws}
use Rattle.monomials.proofs.Orders as orders
use Rattle.rows.specs.declared.line.Line.{Line}
use Rattle.rows.specs.Ideals.{SetUp, Lawful}
use Rattle.rows.specs.Lines.{monomial_of, line, Stands}
use Rattle.rows.specs.Rows.{Row}
use Rattle.rows.specs.Sheets.{Waits, Next, Finished, Kept}
use Rattle.rows.proofs.Keeping.{front_more}
use Rattle.rows.proofs.Waiting.{front_stands}
use Rattle.rows.proofs.KeptRows.{row_kept, row_finished}
use Rattle.rows.proofs.Unique.{same_line}

-- there is one next monomial
pub next_unique : (m : ℕ) (O : Order) → OrderLaws O → (lines : List Line) (a b : Mono) → Next m O lines a → Next m O lines b → a ≡ b
next_unique m O L lines a b s t = elim (orders.compared O L a b) [
  | inl h ↦ absurd (t.first a s.waits h)
  | inr (inl e) ↦ e
  | inr (inr h) ↦ absurd (s.first b t.waits h)
]

module _ (U : SetUp) (K : Lawful U) where
  open U use {subject as S, field as A, order as O}

  -- lines agree as far as both go
  pub agree : (xs ys : List Line) → Kept U xs → Kept U ys → (n : ℕ) → n ≤ length xs → n ≤ length ys → take n xs ≡ take n ys
  agree xs ys H J zero a b = refl
  agree xs ys H J (suc n) a b =
      let ih : take n xs ≡ take n ys = agree xs ys H J n (omega arith) (omega arith) in
      let stands : Stands S A (take n xs) (line ys n) = subst (λ x. Stands S A x (line ys n)) (sym ih) (J.stands n b) in
      let next : Next S.variables O (take n xs) (monomial_of (line ys n)) = subst (λ x. Next S.variables O x (monomial_of (line ys n))) (sym ih) (J.next n b) in
      let same : line xs n ≡ line ys n =
      same_line S K.subject A K.field (take n xs) (front_stands S A xs n (omega arith) H.stands) (line xs n) (line ys n) (H.stands n a) stands
      (next_unique S.variables O K.order (take n xs) (monomial_of (line xs n)) (monomial_of (line ys n)) (H.next n a) next) in
      sym (front_more xs n a) ∙ ap₂ (λ x l. x ++ l ∷ []) ih same ∙ front_more ys n b

  -- finished lines are no fewer than any
  pub no_fewer : (xs ys : List Line) → Kept U xs → Kept U ys → Finished S.variables xs → length ys ≤ length xs
  no_fewer xs ys H J F = elim (cases_lt (length xs) (length ys)) [
    | inr h ↦ h
    | inl h ↦
        let e : take (length xs) ys ≡ xs = sym (agree xs ys H J (length xs) (omega arith) (omega arith)) ∙ take_all (length xs) xs (omega arith) in
        absurd (F (monomial_of (line ys (length xs))) (subst (λ x. Waits S.variables x (monomial_of (line ys (length xs)))) e (J.next (length xs) h).waits))
  ]

  -- kept lines are the first of finished ones
  pub firsts : (xs ys : List Line) → Kept U xs → Kept U ys → Finished S.variables xs → ys ≡ take (length ys) xs
  firsts xs ys H J F = sym (take_all (length ys) ys (omega arith)) ∙ sym (agree xs ys H J (length ys) (no_fewer xs ys H J F) (omega arith))

  -- kept lines are the first of the row
  pub first_of_row : (lines row : List Line) → Kept U lines → Row U row → (length lines ≤ length row) × (lines ≡ take (length lines) row)
  first_of_row lines row H R =
      let J : Kept U row = row_kept U K row R in
      let F : Finished S.variables row = row_finished U K row R in
      (no_fewer row lines J H F, firsts row lines J H F)

  -- kept and finished lines are all the same
  pub finished_same : (xs ys : List Line) → Kept U xs → Kept U ys → Finished S.variables xs → Finished S.variables ys → ys ≡ xs
  finished_same xs ys H J F G =
      firsts xs ys H J F ∙ take_all (length ys) xs (no_fewer ys xs J H G)

  -- the row is the only one
  pub row_only : (row other : List Line) → Row U row → Row U other → other ≡ row
  row_only row other R T = finished_same row other (row_kept U K row R) (row_kept U K other T) (row_finished U K row R) (row_finished U K other T)

  -- kept lines are finished where they are as many as those of the row
  pub finished_length : (lines row : List Line) → Kept U lines → Row U row → Finished S.variables lines ↔ (length lines ≡ length row)
  finished_length lines row H R =
      let J : Kept U row = row_kept U K row R in
      let F : Finished S.variables row = row_finished U K row R in (
        (λ G. ap length (finished_same row lines J H F G)),
        (λ e. subst (Finished S.variables) (sym (firsts row lines J H F ∙ take_all (length lines) row (omega arith))) F),
      )
