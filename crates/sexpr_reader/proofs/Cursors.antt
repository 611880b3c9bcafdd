-- Texts that lead from one cursor to another.
use Rattle.std.proofs.Common.{◌≡◌, ℕ, ◌+◌, ◌-◌, Bool, true, List, [], ◌∷◌, ◌++◌, length, take, drop, refl, sym, ◌∙◌, ap, append_assoc, arith, length-append, get_or, ◌<◌, drop-cons, add-one}
use Rattle.std.specs.Prelude.{Option, None, Some, IfNone, IfSome}
use Rattle.std.proofs.lemmas.List.{append_cancel_left, take_more, take-append-drop}
use Rattle.std.proofs.Math.Seq.{take-append_seam}
use Rattle.std.proofs.lemmas.List.Folds.{list_all-append}
use Rattle.value_core.specs.Place.{Spot}
use Rattle.sexpr_reader.specs.Cursor.{Cursor, next_spot, after, Over, Spans}
use Rattle.sexpr_reader.specs.Lead.{begins}

pub after-append : (s : Spot) (t u : List ℕ) → after s (t ++ u) ≡ after (after s t) u
unfolding after
after-append s [] u = refl
after-append s (b ∷ t) u = after-append (next_spot s b) t u

pub Over-none : (c : Cursor) → Over [] c c
unfolding after
Over-none c = record { bytes = refl; place = refl }

-- one text and then another
pub Over-append : (t u : List ℕ) {c m d : Cursor} → Over t c m → Over u m d → Over (t ++ u) c d
Over-append t u {c} {m} {d} a b = record {
  bytes = a.bytes ∙ ap (λ x. t ++ x) b.bytes ∙ sym (append_assoc t u d.rest);
  place = b.place ∙ ap (λ x. after x u) a.place ∙ sym (after-append c.at t u);
}

-- what is left of a text once its front is behind
pub Over-rest : (t u : List ℕ) {c m d : Cursor} → Over (t ++ u) c d → Over t c m → Over u m d
Over-rest t u {c} {m} {d} whole front = record {
  bytes = append_cancel_left t m.rest (u ++ d.rest) (sym front.bytes ∙ whole.bytes ∙ append_assoc t u d.rest);
  place = whole.place ∙ after-append c.at t u ∙ ap (λ x. after x u) (sym front.place);
}

-- a text leads to one cursor
pub Over-same : (t : List ℕ) {c d e : Cursor} → Over t c d → Over t c e → d ≡ e
Over-same t {c} {d} {e} a b =
    let rest : d.rest ≡ e.rest = append_cancel_left t d.rest e.rest (sym a.bytes ∙ b.bytes) in
    let at : d.at ≡ e.at = a.place ∙ sym b.place in
    let made : Spot → List ℕ → Cursor = λ s r. record { at = s; rest = r } in
    ap (λ s. made s d.rest) at ∙ ap (λ r. made e.at r) rest

pub Spans-more : (test : ℕ → Bool) (t : List ℕ) (b : ℕ) {c m d : Cursor} → Spans test t c m → Over (b ∷ []) m d → test b ≡ true → Spans test (t ++ b ∷ []) c d
Spans-more test t b s o e = record {
  each = rw (list_all-append, s.each, e) refl;
  over = Over-append t (b ∷ []) s.over o;
}

pub Over-length : (t : List ℕ) {c d : Cursor} → Over t c d → length c.rest ≡ length t + length d.rest
Over-length t {c} {d} o = ap length o.bytes ∙ length-append t d.rest

-- the text is what the rest has fewer
pub Over-text : (t : List ℕ) {c d : Cursor} → Over t c d → take (length c.rest - length d.rest) c.rest ≡ t
Over-text t {c} {d} o =
    let e : length c.rest - length d.rest ≡ length t = omega (arith, Over-length t o) in
    rw (e, o.bytes) (take-append_seam t d.rest)

-- a byte more, where there is one that passes the test
pub Spans-step : (test : ℕ → Bool) (next : Option ℕ) {c m d : Cursor} → begins test m.rest ≡ true
    → IfNone next (m.rest ≡ []) → IfSome next (λ b. Over (b ∷ []) m d)
    → (t : List ℕ) × Spans test t c m → (t : List ℕ) × Spans test t c d
Spans-step test None {c} {m} {d} passes end step s = let e : begins test [] ≡ true = rw end at passes in absurd (cc)
Spans-step test (Some b) {c} {m} {d} passes end step s =
    let e : begins test (b ∷ d.rest) ≡ true = rw step.bytes at passes in
    (s.0 ++ b ∷ [], Spans-more test s.0 b s.1 step e)

-- one byte of a text more
pub Over-next : (t : List ℕ) (i : ℕ) (b : ℕ) {c m d : Cursor} → i < length t → b ≡ get_or t i 0 → Over (take i t) c m → Over (b ∷ []) m d → Over (take (i + 1) t) c d
Over-next t i b h e front step = rw (take_more t i 0 h, ← e) (Over-append (take i t) (b ∷ []) front step)

-- the whole text leads on from its front by the byte that comes next
pub Over-byte : (t : List ℕ) (i : ℕ) {c m d : Cursor} → i < length t → Over (take i t) c m → Over t c d → m.rest ≡ get_or t i 0 ∷ (drop (i + 1) t ++ d.rest)
Over-byte t i {c} {m} {d} h front whole =
    let split : take i t ++ drop i t ≡ t = take-append-drop i t in
    let on : Over (take i t ++ drop i t) c d = rw split whole in
    let o : Over (drop i t) m d = Over-rest (take i t) (drop i t) on front in
    o.bytes ∙ rw (drop-cons t i 0, add-one) refl
