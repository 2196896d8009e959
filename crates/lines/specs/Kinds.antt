-- The kinds of lines, their order and their counts of words.
use Rattle.std.specs.Prelude.{ℕ, ◌+◌, Bool, true, cond, ◌&&◌, ◌||◌, List, Some, None, codes, Option, ◌==◌, nat_le}
use Rattle.std.specs.Str.{bytes_eq}
use Rattle.scheme.specs.declared.kind.Kind.{Kind}
use Rattle.scheme.specs.declared.kind.Kind.TheVariants.{Attr, Right, Object, Policy, If, Do, Query}

-- the kind that a first word names, whatever the form of the word
abbrev pub kind_in : List ℕ → Option Kind
kind_in w =
    cond (bytes_eq w (codes "attr")) (Some Attr)
    (cond (bytes_eq w (codes "right")) (Some Right)
    (cond (bytes_eq w (codes "object")) (Some Object)
    (cond (bytes_eq w (codes "policy")) (Some Policy)
    (cond (bytes_eq w (codes "if")) (Some If)
    (cond (bytes_eq w (codes "do")) (Some Do)
    (cond (bytes_eq w (codes "query")) (Some Query) None))))))

abbrev pub rank : Kind → ℕ
rank Attr = 0
rank Right = 1
rank Object = 2
rank Policy = 3
rank If = 4
rank Do = 5
rank Query = 6

-- a text begins as if an `attr` line stood above it
abbrev pub last_rank : Option Kind → ℕ
last_rank None = 0
last_rank (Some k) = rank k

-- a line of a kind may stand below these: an `if` line below a `policy` or an `if` line, a `do` line below either or a
-- `do` line, any other below all kinds up to its own, where the `if` and `do` lines of a policy are of its kind
abbrev pub in_order : Option Kind → Kind → Bool
in_order last Attr = nat_le (last_rank last) 0
in_order last Right = nat_le (last_rank last) 1
in_order last Object = nat_le (last_rank last) 2
in_order last Policy = nat_le (last_rank last) 5
in_order last If = nat_le 3 (last_rank last) && nat_le (last_rank last) 4
in_order last Do = nat_le 3 (last_rank last) && nat_le (last_rank last) 5
in_order last Query = true

-- how many words a line may have, its first word counted, where so many attributes are declared
abbrev pub count_allowed : Kind → ℕ → ℕ → Bool
count_allowed Attr attributes count = count == 3
count_allowed Right attributes count = count == 2
count_allowed Object attributes count = count == attributes + 2
count_allowed Policy attributes count = count == 3
count_allowed If attributes count = count == 3 || count == 4
count_allowed Do attributes count = count == 3 || count == 4
count_allowed Query attributes count = count == 4
