-- The chunks of a file are its records, and one entry more says one record more.
use Rattle.std.proofs.Common.{◌≡◌, ℕ, zero, suc, ◌+◌, ◌*◌, ◌<◌, List, [], ◌∷◌, ◌++◌, length, get_or, take, drop, sym, ap, ◌∙◌, subst, arith, below_more, mul-zero}
use Rattle.std.proofs.lemmas.List.{drop-drop, get_or_append_left, get_or_push}
use Rattle.std.specs.Simd.{first_chunks}
use Rattle.records.specs.declared.entry.Entry.{Entry}
use Rattle.records.specs.Format.{Says}
use Rattle.records.specs.Layout.{record_of}
use Rattle.patterns.specs.Files.{records_in, record_at, entry, blank}

chunk : (n k : ℕ) (xs : List ℕ) (i : ℕ) → i < k → get_or (first_chunks n k xs) i [] ≡ take n (drop (n * i) xs)
chunk n zero xs i h = absurd (omega arith)
chunk n (suc k) xs zero h = ap (λ m. take n (drop m xs)) (sym (mul-zero n))
chunk n (suc k) xs (suc i) h =
    let further : n + n * i ≡ n * suc i = omega arith in
    chunk n k (drop n xs) i (omega arith) ∙ ap (take n) (drop-drop (n * i) n xs ∙ ap (λ m. drop m xs) further)

-- the record of a number is that of its chunk
pub record_of_chunk : (bytes : List ℕ) (chunks : List (List ℕ)) → chunks ≡ first_chunks 12 (records_in bytes) bytes → (i : ℕ) → i < records_in bytes → record_of (get_or chunks i []) ≡ record_at bytes i
record_of_chunk bytes chunks e i h = ap (λ cs. record_of (get_or cs i [])) e ∙ ap record_of (chunk 12 (records_in bytes) bytes i h)

-- the entries that were said, and one more
pub said_more : (bytes : List ℕ) (es after : List Entry) (n : ℕ) (e : Entry) → length es ≡ n → after ≡ es ++ e ∷ [] →
    ((j : ℕ) → j < n → Says (record_at bytes j) (entry es j)) → Says (record_at bytes n) e → (j : ℕ) → j < n + 1 → Says (record_at bytes j) (entry after j)
said_more bytes es after n e long at-end said more =
    below_more (λ j. Says (record_at bytes j) (entry after j)) n
    (λ j h. subst (Says (record_at bytes j)) (sym (ap (λ xs. entry xs j) at-end ∙ get_or_append_left es (e ∷ []) blank j (omega arith))) (said j h))
    (subst (Says (record_at bytes n)) (sym (ap (λ xs. entry xs n) at-end ∙ get_or_push es e blank n long)) more)
