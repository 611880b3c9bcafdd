-- Joined texts from a place on.
use Rattle.std.proofs.Common.{◌≡◌, ℕ, ◌≤◌, Bool, true, false, Result, Ok, Err, IfOk, OnOk, if◌then◌else◌, List, [], ◌∷◌, ◌++◌, map, length, drop, refl, sym, ap, ◌∙◌, append_assoc, append-nil, arith}
use Rattle.std.specs.Prelude.{◌==◌}
use Rattle.std.proofs.lemmas.List.{drop_all}
use Rattle.value_core.specs.Texts.{joined}

-- the texts that are left: each but the first of all has the separator in front
abbrev pub left_at : List ℕ → Bool → List (List ℕ) → List ℕ
left_at separator is_first [] = []
left_at separator is_first (text ∷ texts) = (if is_first then [] else separator) ++ text ++ left_at separator false texts

joined-first : (separator text : List ℕ) (texts : List (List ℕ)) → joined separator (text ∷ texts) ≡ text ++ left_at separator false texts
joined-first separator text [] = sym (append-nil text)
joined-first separator text (next ∷ texts) =
    ap (λ t. text ++ separator ++ t) (joined-first separator next texts) ∙ append_assoc text separator (next ++ left_at separator false texts)
    ∙ ap (λ t. text ++ t) (sym (append_assoc separator next (left_at separator false texts)))

pub joined-left_at : (separator : List ℕ) (texts : List (List ℕ)) → joined separator texts ≡ left_at separator true texts
joined-left_at separator [] = refl
joined-left_at separator (text ∷ texts) = joined-first separator text texts

pub written_all : {A : Type 0} (write : A → List ℕ) (separator : List ℕ) (xs : List A) (i : ℕ) (text all : List ℕ) → length xs ≤ i
    → text ++ left_at separator (i == 0) (map write (drop i xs)) ≡ all → text ≡ all
written_all write separator xs i text all le e =
    sym (append-nil text) ∙ ap (λ l. text ++ left_at separator (i == 0) (map write l)) (sym (drop_all i xs le)) ∙ e

-- where none is left, none is behind the last one
pub ended : {A : Type 0} (write : A → List ℕ) (separator : List ℕ) (xs rest : List A) (is_first : Bool) (text all : List ℕ) → rest ≡ []
    → text ++ left_at separator is_first (map write rest) ≡ all → text ++ left_at separator (length xs == 0) (map write (drop (length xs) xs)) ≡ all
ended write separator xs rest is_first text all none e =
    ap (λ l. text ++ left_at separator (length xs == 0) (map write l)) (drop_all (length xs) xs (omega arith)) ∙ sym (ap (λ l. text ++ left_at separator is_first (map write l)) none) ∙ e

-- all texts written, with an opening before them and a closing after them
pub between : {A E : Type 0} (write : A → List ℕ) (separator : List ℕ) (xs ys : List A) (i : ℕ) (old start text opening closing all : List ℕ) (r : Result (Unit {0}) E) → length xs ≤ i → xs ≡ ys
    → start ≡ old ++ opening
    → text ++ left_at separator (i == 0) (map write (drop i xs)) ≡ start ++ left_at separator true (map write xs)
    → OnOk r (all ≡ text ++ closing) → IfOk r (λ _. all ≡ old ++ (opening ++ joined separator (map write ys) ++ closing))
between write separator xs ys i old start text opening closing all (Err e) le same begun written closed = tt
between write separator xs ys i old start text opening closing all (Ok x) le same begun written closed =
    let body = joined separator (map write ys) in
    let whole : text ≡ start ++ body = written_all write separator xs i text (start ++ body) le (written ∙ ap (λ l. start ++ l) (sym (joined-left_at separator (map write xs)) ∙ ap (λ l. joined separator (map write l)) same)) in
    closed ∙ ap (λ t. t ++ closing) (whole ∙ ap (λ t. t ++ body) begun) ∙ append_assoc (old ++ opening) body closing ∙ append_assoc old opening (body ++ closing) ∙ ap (λ t. old ++ t) (sym (append_assoc opening body closing))
