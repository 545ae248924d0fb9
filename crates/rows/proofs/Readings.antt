-- A row by the places of its lines: its stairs and leads, and what the polynomial of a line gives under a function.
use Rattle.std.proofs.Common.{◌≡◌, ℕ, zero, suc, ◌<◌, ◌≤◌, Bool, true, List, [], ◌∷◌, ◌++◌, map, length, get_or, take, drop, filter, sym, refl, ap, ◌∙◌, inl, inr, append_assoc, append-nil, arith, length-append}
use Rattle.std.proofs.lemmas.Bool.{cases_Bool, not-true}
use Rattle.std.proofs.lemmas.List.{get_or-map, take-append-drop, get_or_append_left}
use Rattle.std.proofs.lemmas.List.Elements.{filter-append}
use Rattle.fields.specs.Arithmetic.{Arithmetic, RingLaws, total}
use Rattle.fields.proofs.Rings as rings
use Rattle.fields.proofs.Totals as totals
use Rattle.monomials.specs.Monomials.{Mono, one}
use Rattle.polynomials.specs.Polynomials.{applied, Each}
use Rattle.rows.specs.declared.line.Line.{Line}
use Rattle.rows.specs.Lines.{monomial_of, blank, line, is_stair, is_relation, stairs_of, relations_of, on_stairs, polynomial}
use Rattle.rows.specs.Rows.{members_after}
use Rattle.rows.proofs.Ranks.{rank, kept_at, kept_from}

-- the monomial of a line that is kept
abbrev pub mono_at : (Line → Bool) → List Line → ℕ → Mono
mono_at p row j = get_or (map monomial_of (filter p row)) j one

-- the stairs of a row
abbrev pub stair : List Line → ℕ → Mono
stair row = mono_at is_stair row

-- the leads of a row
abbrev pub lead : List Line → ℕ → Mono
lead row = mono_at is_relation row

-- it is the monomial of the line that is kept
pub mono_line : (p : Line → Bool) (row : List Line) (j : ℕ) → j < length (filter p row) →
    mono_at p row j ≡ monomial_of (line (filter p row) j)
mono_line p row j l = get_or-map monomial_of (filter p row) j blank one l

module _ (p : Line → Bool) (row : List Line) where
  -- a line that is kept, at its rank
  pub at_rank : (i : ℕ) → i < length row → p (line row i) ≡ true →
      (rank p row i < length (filter p row)) × (mono_at p row (rank p row i) ≡ monomial_of (line row i))
  at_rank i l h =
      let (b, e) = kept_at p row i blank l h in
      (b, mono_line p row (rank p row i) b ∙ ap monomial_of e)

  -- the place of a line that is kept
  pub record Placed (j : ℕ) : Type 0 where
    pub at : ℕ
    pub inside : at < length row
    pub passes : p (line row at) ≡ true
    pub ranked : rank p row at ≡ j
    pub same_line : line (filter p row) j ≡ line row at
    pub same_mono : mono_at p row j ≡ monomial_of (line row at)

  -- every line that is kept has a place
  pub placed : (j : ℕ) → j < length (filter p row) → Placed j
  placed j l =
      let (i, b, h, e) = kept_from p row j blank l in
      let g : line (filter p row) j ≡ line row i = ap (line (filter p row)) (sym e) ∙ (kept_at p row i blank b h).1 in
      record { at = i; inside = b; passes = h; ranked = e; same_line = g; same_mono = mono_line p row j l ∙ ap monomial_of g }

  -- what is kept of a front stands in front
  parts : (i : ℕ) → filter p row ≡ filter p (take i row) ++ filter p (drop i row)
  parts i = ap (filter p) (sym (take-append-drop i row)) ∙ filter-append p (take i row) (drop i row)

  -- a rank is no more than all
  pub rank_all : (i : ℕ) → rank p row i ≤ length (filter p row)
  rank_all i = omega (arith, ap length (parts i) ∙ length-append (filter p (take i row)) (filter p (drop i row)))

  -- a line in front
  pub early_line : (i j : ℕ) → j < rank p row i → line (filter p row) j ≡ line (filter p (take i row)) j
  early_line i j l = ap (λ x. line x j) (parts i) ∙ get_or_append_left (filter p (take i row)) (filter p (drop i row)) blank j l

  -- its monomial
  pub early : (i j : ℕ) → j < rank p row i → mono_at p row j ≡ mono_at p (take i row) j
  early i j l = mono_line p row j (omega (arith, rank_all i)) ∙ ap monomial_of (early_line i j l) ∙ sym (mono_line p (take i row) j l)

-- the members stand at the ranks of their lines
pub member_at : (before row : List Line) (i : ℕ) → i < length row → is_relation (line row i) ≡ true →
    get_or (members_after before row) (rank is_relation row i) [] ≡ polynomial (before ++ take i row) (line row i)
member_at before [] i l h = absurd (omega arith)
member_at before (x ∷ xs) zero l h = rw (not-true (is_stair x) h) (ap (λ b. polynomial b x) (sym (append-nil before)))
member_at before (x ∷ xs) (suc i) l h =
    let e = member_at (before ++ x ∷ []) xs i (omega arith) h ∙ ap (λ b. polynomial b (line xs i)) (append_assoc before (x ∷ []) (take i xs)) in
    elim (cases_Bool (is_stair x)) [ inl t ↦ rw t e | inr f ↦ rw f e ]

-- there are as many members as relations
pub members_length : (before row : List Line) → length (members_after before row) ≡ length (relations_of row)
members_length before [] = refl
members_length before (x ∷ xs) =
    let e = members_length (before ++ x ∷ []) xs in
    elim (cases_Bool (is_stair x)) [ inl t ↦ rw t e | inr f ↦ rw f (ap suc e) ]

-- a fact of the stairs, of each term on them
pub each_on_stairs : (P : Mono → Type 0) (ss : List Line) (cs : List ℕ) →
    ((j : ℕ) → j < length ss → P (get_or (map monomial_of ss) j one)) → Each P (on_stairs ss cs)
each_on_stairs P [] cs h = tt
each_on_stairs P (s ∷ ss) [] h = tt
each_on_stairs P (s ∷ ss) (c ∷ cs) h = (h 0 (omega arith), each_on_stairs P ss cs (λ j l. h (suc j) (omega arith)))

module _ (A : Arithmetic) (L : RingLaws A) where
  infixl 60 ◌⊕◌
  infixl 70 ◌⊗◌
  open A use {sum as ◌⊕◌, product as ◌⊗◌}

  -- terms on stairs as a sum over the stairs
  pub applied_on_stairs : (f : Mono → ℕ) (ss : List Line) (cs : List ℕ) →
      applied A f (on_stairs ss cs) ≡ total A (length ss) (λ j. get_or cs j 0 ⊗ f (get_or (map monomial_of ss) j one))
  applied_on_stairs f [] cs = refl
  applied_on_stairs f (s ∷ ss) [] = sym (totals.total_zero A L (length (s ∷ ss)) _ (λ k h. rings.zero_product A L _))
  applied_on_stairs f (s ∷ ss) (c ∷ cs) =
      ap (λ x. c ⊗ f (monomial_of s) ⊕ x) (applied_on_stairs f ss cs) ∙
      sym (totals.total_front A L (length ss) (λ j. get_or (c ∷ cs) j 0 ⊗ f (get_or (map monomial_of (s ∷ ss)) j one)))

  -- the polynomial of a line after the lines before a place
  pub reads_early : (row : List Line) (i : ℕ) (l : Line) (f : Mono → ℕ) →
      applied A f (polynomial (take i row) l) ≡ 1 ⊗ f (monomial_of l) ⊕ total A (rank is_stair row i) (λ j. get_or l.combination j 0 ⊗ f (stair row j))
  reads_early row i l f = ap (λ x. 1 ⊗ f (monomial_of l) ⊕ x)
      (applied_on_stairs f (stairs_of (take i row)) l.combination ∙
      totals.total_same A (rank is_stair row i) _ _ (λ j h. ap (λ y. get_or l.combination j 0 ⊗ f y) (sym (early is_stair row i j h))))
