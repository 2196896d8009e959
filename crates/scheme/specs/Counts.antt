-- How many states and moves a scheme has.
use Rattle.std.specs.Prelude.{ℕ, ◌*◌, ◌^◌, length}
use Rattle.scheme.specs.Models.{SchemeModel}
use Rattle.scheme.specs.Sizes.{sizes_of, size_states}

-- each object is in one of its states
abbrev pub state_count : SchemeModel → ℕ
state_count m = size_states (sizes_of m) ^ length m.objects

-- each policy, applied to each subject and each object
abbrev pub move_count : SchemeModel → ℕ
move_count m = length m.objects * length m.objects * length m.policies
