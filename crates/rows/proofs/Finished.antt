-- Lines that have made progress over everything are the row, and codes on their stairs have one continuation.
use Rattle.std.proofs.Common.{ℕ, ◌<◌, List, length, get_or, sym, ap, ◌∙◌, subst, mod-eq_of_lt}
use Rattle.monomials.specs.Monomials.{Mono}
use Rattle.rows.specs.declared.line.Line.{Line}
use Rattle.rows.specs.Ideals.{SetUp, Lawful, InDeltaSet}
use Rattle.rows.specs.Lines.{is_stair, stairs_of}
use Rattle.rows.specs.Rows.{Row}
use Rattle.rows.specs.Continuation.{OneContinuation}
use Rattle.rows.proofs.Readings.{mono_line}
use Rattle.rows.proofs.Bases
use Rattle.rows.proofs.Progress.{Progress}
use Rattle.rows.proofs.Stages.{stage}

module _ (U : SetUp) (K : Lawful U) (Seen : Mono → Type 0) (row : List Line) (W : Progress U Seen row) (all : (a : Mono) → Seen a) where
  pub finished_row : Row U row
  finished_row = record {
    ascends = W.lines.ascends;
    stands = W.lines.stands;
    stairs = λ j l. subst (InDeltaSet U) (mono_line is_stair row j l) (Bases.stair_stands U K (stage U K Seen row W) j l);
    all_stairs = λ a t.
        let (j, l, e) = Bases.all_stairs U K (stage U K Seen row W) a (all a) t in
        (j, l, sym (mono_line is_stair row j l) ∙ e);
    basis = Bases.reduced_basis U K (stage U K Seen row W) all;
  }

  module _ (codes : List ℕ) (below : (j : ℕ) → j < length (stairs_of row) → get_or codes j 0 < U.field.order) where
    code : ℕ → ℕ
    code j = get_or codes j 0

    pub one_continuation : OneContinuation U row codes
    unfolding code
    one_continuation = record {
      array = Bases.continuation U K (stage U K Seen row W) all code;
      continues = record {
        below = (Bases.continuation_obeys U K (stage U K Seen row W) all code).below;
        given = λ j l.
            ap (Bases.continuation U K (stage U K Seen row W) all code) (sym (mono_line is_stair row j l)) ∙
            Bases.continuation_given U K (stage U K Seen row W) all code j l ∙
            mod-eq_of_lt (below j l);
        obeys = (Bases.continuation_obeys U K (stage U K Seen row W) all code).obeys;
      };
      only = λ f c a w. Bases.continuation_only U K (stage U K Seen row W) all code f
          (record { below = c.below; obeys = c.obeys })
          (λ j l. ap f (mono_line is_stair row j l) ∙ c.given j l ∙ sym (mod-eq_of_lt (below j l)))
          a w;
    }
