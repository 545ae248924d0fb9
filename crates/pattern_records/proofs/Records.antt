-- One record more after the others.
use Rattle.std.proofs.Common.{ℕ, ◌+◌, ◌<◌, List, [], ◌∷◌, ◌++◌, length, get_or, take, sym, refl, ap, ◌∙◌}
use mathlib.Core.Path.{subst⁻¹}
use Rattle.std.proofs.lemmas.List.{append_assoc, append-nil, take_more}
use Rattle.records.specs.declared.entry.Entry.{Entry}
use Rattle.pattern_records.specs.Bytes.{RecordSays, Appended, Holds}

holds_more : (bytes : List ℕ) (es : List Entry) (written : List ℕ) (e : Entry) → Holds bytes es → RecordSays written e → Holds (bytes ++ written) (es ++ e ∷ [])
holds_more bytes [] written e none says =
    (written, [], ap (λ x. x ++ written) none ∙ sym (append-nil written), says, refl)
holds_more bytes (d ∷ es) written e (first, rest, whole, first_says, others) says =
    (first, rest ++ written, ap (λ x. x ++ written) whole ∙ append_assoc first rest written, first_says, holds_more rest es written e others says)

-- the record of the entry at a place
pub appended_more : (bytes after : List ℕ) (es : List Entry) (i : ℕ) (d : Entry) → i < length es → Holds bytes (take i es) → Appended bytes (get_or es i d) after → Holds after (take (i + 1) es)
appended_more bytes after es i d h so_far (written, says, at-end) =
    subst⁻¹ (Holds after) (take_more es i d h)
    (subst⁻¹ (λ x. Holds x (take i es ++ get_or es i d ∷ [])) at-end (holds_more bytes (take i es) written (get_or es i d) so_far says))
