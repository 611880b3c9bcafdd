-- What is enough for some code is enough for its parts.
use Rattle.std.proofs.Common.{ℕ, ◌+◌, ◌<◌, ◌≤◌, List, [], ◌∷◌, ◌++◌, sym, subst, arith}
use Rattle.std.specs.Prelude.{All, Option}
use Rattle.std.proofs.lemmas.List.Elements.{All-append, All-cons, All-head, All-tail, All-nil, Contains-append_left, Contains-append_right}
use Rattle.resolved_forms.specs.declared.layout.Hidden.{Hidden}
use Rattle.resolved_forms.specs.InRange.{Target}
use Rattle.resolved_forms.specs.declared.survey.LoopSurvey.{LoopSurvey}
use Rattle.resolved_forms.specs.declared.survey.Survey.{Survey}
use Rattle.resolved_forms.specs.declared.uses.Uses.{Uses}
use Rattle.resolved_forms.specs.Survey.{both}
use Rattle.resolved_forms.specs.Uses.{both_uses}
use Rattle.program_plan.proofs.Setting.{Setting, Covers, Entry, Ready, Numbered, Enough, Named}

pub All_first : {X : Type 0} (P : X → Type 0) (xs ys : List X) → All P (xs ++ ys) → All P xs
All_first P [] ys all = All-nil P
All_first P (x ∷ xs) ys all = All-cons P x xs (All-head P x (xs ++ ys) all) (All_first P xs ys (All-tail P x (xs ++ ys) all))

pub All_rest : {X : Type 0} (P : X → Type 0) (xs ys : List X) → All P (xs ++ ys) → All P ys
All_rest P [] ys all = all
All_rest P (x ∷ xs) ys all = All_rest P xs ys (All-tail P x (xs ++ ys) all)

pub covers_first : (w : Setting) (globals : List ℕ) (a b : Uses) → Covers w globals (both_uses a b) → Covers w globals a
covers_first w globals a b covers = record {
  named = λ g at. covers.named g (Contains-append_left a.globals b.globals g at);
  through = λ unit g at reaches. covers.through unit g (Contains-append_left a.units b.units unit at) reaches;
}

pub covers_rest : (w : Setting) (globals : List ℕ) (a b : Uses) → Covers w globals (both_uses a b) → Covers w globals b
covers_rest w globals a b covers = record {
  named = λ g at. covers.named g (Contains-append_right a.globals b.globals g at);
  through = λ unit g at reaches. covers.through unit g (Contains-append_right a.units b.units unit at) reaches;
}

module _ (w : Setting) (hidden : Hidden) (base : ℕ) where
  pub enough_first : (depth : ℕ) (target : Option Target) (a b : Survey) (xs ys : List Entry) → Enough w hidden base depth target (both a b) (xs ++ ys) → Enough w hidden base depth target a xs
  enough_first depth target a b xs ys enough = record {
    within = enough.within;
    covers = covers_first w hidden.globals a.uses b.uses enough.covers;
    levels = λ level at. enough.levels level (Contains-append_left a.levels b.levels level at);
    ready = All_first (Ready w) xs ys enough.ready;
    target_ready = enough.target_ready;
  }

  pub enough_rest : (depth : ℕ) (target : Option Target) (a b : Survey) (xs ys : List Entry) → Enough w hidden base depth target (both a b) (xs ++ ys) → Enough w hidden base depth target b ys
  enough_rest depth target a b xs ys enough = record {
    within = enough.within;
    covers = covers_rest w hidden.globals a.uses b.uses enough.covers;
    levels = λ level at. enough.levels level (Contains-append_right a.levels b.levels level at);
    ready = All_rest (Ready w) xs ys enough.ready;
    target_ready = enough.target_ready;
  }

  -- where more locals are bound
  pub enough_deeper : (depth deeper : ℕ) (target : Option Target) (a : Survey) (xs : List Entry) → depth ≤ deeper → Enough w hidden base depth target a xs → Enough w hidden base deeper target a xs
  enough_deeper depth deeper target a xs le enough = record {
    within = let within = enough.within in omega arith;
    covers = enough.covers;
    levels = enough.levels;
    ready = enough.ready;
    target_ready = enough.target_ready;
  }

pub named_both : (w : Setting) (a b : Survey) → Named w a → Named w b → Named w (both a b)
named_both w a b first second = record {
  uses = All-append (λ g. g < w.globals) a.uses.globals b.uses.globals first.uses second.uses;
  inside = All-append (λ (loop : LoopSurvey). All (λ g. g < w.globals) loop.uses.globals) a.loops b.loops first.inside second.inside;
}

pub Numbered-append : (start mid end : ℕ) (xs ys : List Entry) → Numbered start mid xs → Numbered mid end ys → Numbered start end (xs ++ ys)
Numbered-append start mid end [] ys first second = subst (λ n. Numbered n end ys) (sym first) second
Numbered-append start mid end (x ∷ xs) ys first second = (first.0, Numbered-append (start + 1) mid end xs ys first.1 second)
