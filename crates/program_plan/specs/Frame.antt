-- Frames: which values lie where in the list that an expression is evaluated in.
use Rattle.std.specs.Prelude.{ℕ, ◌+◌, ◌-◌, List, [], ◌++◌, map, length, nat_lt, if◌then◌else◌, count_by, Option, Some, None, All}
use Rattle.std.specs.List.{slice_get}
use Rattle.std.specs.List.Sorted.{IsNonDecreasing}
use Rattle.resolved_forms.specs.declared.layout.Hidden.{Hidden}
use Rattle.resolved_forms.specs.declared.layout.Layout.{Layout}

-- in a program of that layout: first the listed globals, then the outer locals of the listed levels, and then the
-- locals of level `base` and on
pub record Frame : Type 0 where
  pub layout : Layout
  pub globals : List ℕ
  pub levels : List ℕ
  pub base : ℕ

-- how many of the numbers are below n. That is the position of n, where they rise and n is one of them
abbrev pub position_of : ℕ → List ℕ → ℕ
position_of n numbers = count_by (λ m. nat_lt m n) numbers

abbrev pub global_place : Frame → ℕ → ℕ
global_place frame number = position_of number frame.globals

abbrev pub local_place : Frame → ℕ → ℕ
local_place frame level =
    length frame.globals + (if nat_lt level frame.base then position_of level frame.levels else length frame.levels + (level - frame.base))

-- where the hidden arguments of a function or behaviour lie
abbrev pub hidden_places : Frame → Hidden → List ℕ
hidden_places frame hidden = map (global_place frame) hidden.globals ++ map (local_place frame) hidden.levels

abbrev pub hidden_count : Hidden → ℕ
hidden_count hidden = length hidden.globals + length hidden.levels

abbrev pub nothing_hidden : Hidden
nothing_hidden = record { globals = []; levels = [] }

-- the hidden arguments with that number, and none where it is not there
abbrev pub or_nothing : Option Hidden → Hidden
or_nothing (Some hidden) = hidden
or_nothing None = nothing_hidden

abbrev pub hidden_at : List Hidden → ℕ → Hidden
hidden_at all number = or_nothing (slice_get all number)

-- the frame of a body: its hidden arguments, and its own locals from level `base` on
abbrev pub frame_of : Layout → Hidden → ℕ → Frame
frame_of layout hidden base = record { layout = layout; globals = hidden.globals; levels = hidden.levels; base = base }

-- the frame of a loop's body
abbrev pub loop_frame : Frame → ℕ → ℕ → Frame
loop_frame frame number base = frame_of frame.layout (hidden_at frame.layout.functions number) base

-- the lists of hidden arguments rise
pub record Rises (hidden : Hidden) : Type 0 where
  pub globals : IsNonDecreasing hidden.globals
  pub levels : IsNonDecreasing hidden.levels

pub record LayoutRises (layout : Layout) : Type 0 where
  pub functions : All Rises layout.functions
  pub behaviours : All Rises layout.behaviours

-- all that is listed in a frame rises
pub record FrameRises (frame : Frame) : Type 0 where
  pub layout : LayoutRises frame.layout
  pub globals : IsNonDecreasing frame.globals
  pub levels : IsNonDecreasing frame.levels
