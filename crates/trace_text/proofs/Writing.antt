-- The text of a trace, line after line.
use Rattle.std.proofs.Common.{◌≡◌, [], ◌∷◌, ◌++◌, map, sym, ap, ◌∙◌, append_assoc, append-nil}
use Rattle.std.specs.List.{flat_map}
use Rattle.std.specs.Prelude.{codes}
use Rattle.std.proofs.lemmas.Grind.{flat_map-append}
use Rattle.std.proofs.lemmas.List.Folds.{flat_map-map}
use Rattle.serial_model.specs.declared.trace.Trace.{Trace}
use Rattle.serial_model.specs.Trace.{end_text, entry_text, limits_text, line_of, trace_text}

-- the line of the end is the last
pub ended : (t : Trace) → ((line_of (codes "chocola-trace 1") ++ line_of (limits_text t.limits)) ++ flat_map (λ entry. line_of (entry_text entry)) t.history.items) ++ line_of (end_text t.end) ≡ trace_text t
ended t =
    let body = flat_map line_of (map entry_text t.history.items) in
    let last : body ++ line_of (end_text t.end) ≡ flat_map line_of (map entry_text t.history.items ++ end_text t.end ∷ []) =
    ap (λ xs. body ++ xs) (sym (append-nil (line_of (end_text t.end)))) ∙ sym (flat_map-append line_of (map entry_text t.history.items) (end_text t.end ∷ [])) in
    ap (λ xs. ((line_of (codes "chocola-trace 1") ++ line_of (limits_text t.limits)) ++ xs) ++ line_of (end_text t.end)) (sym (flat_map-map line_of entry_text t.history.items))
    ∙ append_assoc (line_of (codes "chocola-trace 1") ++ line_of (limits_text t.limits)) body (line_of (end_text t.end))
    ∙ append_assoc (line_of (codes "chocola-trace 1")) (line_of (limits_text t.limits)) (body ++ line_of (end_text t.end))
    ∙ ap (λ xs. line_of (codes "chocola-trace 1") ++ (line_of (limits_text t.limits) ++ xs)) last
