-- Texts of the worked examples, byte by byte.
use Rattle.std.specs.Prelude.{ℕ, List, ◌++◌, codes}

-- two objects, ann and m1, that drive and refill
abbrev pub meter : List ℕ
meter =
    codes "attr role 2\nattr left 3\nright drive\nright load\nobject ann 0 -\nobject m1 - 1\n"
    ++ codes "policy drive drive\nif s.role = 0\nif o.left > 0\ndo o.left sub 1\n"
    ++ codes "policy refill load\nif s.role = 0\nif o.left = 0\ndo o.left add 2\n"
    ++ codes "query ann m1 load\nquery m1 ann load\n"

-- what `annex` prints of it
abbrev pub meter_report : List ℕ
meter_report =
    codes "scheme 169 8\nleak ann m1 load 2 14\nby drive ann m1\nby refill ann m1\n"
    ++ codes "never m1 ann load 3 24\n"

-- 4,096 states: as many as the tables of `annex` have entries
abbrev pub answered : List ℕ
answered = codes "attr a 62\nright r\nobject x 0\nobject y 0\nquery x y r\n"

-- 4,489 states: too many for the tables of `annex`
abbrev pub unanswered : List ℕ
unanswered =
    codes "attr role 2\nattr left 21\nright drive\nobject ann 0 -\nobject m1 - 20\n"
    ++ codes "query ann m1 drive\n"

-- what `annex` prints of it
abbrev pub unanswered_report : List ℕ
unanswered_report = codes "scheme 4489 0\nrefused 31 0 0\n"

-- two objects, with as many states as a scheme may have, and with more
abbrev pub most : List ℕ
most = codes "attr a 2\nattr b 10\nattr c 30\nright r\nobject x - - -\nobject y - - -\n"

abbrev pub too_many : List ℕ
too_many = codes "attr a 31\nattr b 31\nright r\nobject x - -\nobject y - -\n"

-- one attribute of size 2, a right and two objects: four lines
abbrev pub two_objects : List ℕ
two_objects = codes "attr a 2\nright r\nobject x 0\nobject y -\n"

-- and a policy: five lines
abbrev pub one_policy : List ℕ
one_policy = two_objects ++ codes "policy p r\n"

-- the most predicates: six lines
abbrev pub six_predicates : List ℕ
six_predicates = codes "if s.a = 0\nif s.a = 0\nif s.a = 0\nif s.a = 0\nif s.a = 0\nif s.a = 0\n"

-- the most attributes: four lines
abbrev pub four_attributes : List ℕ
four_attributes = codes "attr a 1\nattr b 1\nattr c 1\nattr d 1\n"

-- three attributes, rights, objects, policies and queries
abbrev pub handover : List ℕ
handover =
    codes "attr badge 1\nattr key 1\nattr open 1\nright unlock\nright enter\nright lend\n"
    ++ codes "object ann 0 0 -\nobject bob 0 - -\nobject door - - -\n"
    ++ codes "policy handover lend\nif s.key set\nif o.badge set\ndo o.key to s.key\ndo s.key to -\n"
    ++ codes "policy turn unlock\nif s.key set\nif o.badge null\nif o.open null\ndo o.open to 0\n"
    ++ codes "policy pass enter\nif s.badge set\nif s.key null\nif o.open set\n"
    ++ codes "query bob door unlock\nquery ann door enter\nquery door ann lend\n"

-- what `annex` prints of it
abbrev pub handover_report : List ℕ
handover_report =
    codes "scheme 729 27\n"
    ++ codes "leak bob door unlock 3 42\nby handover ann bob\nby turn bob door\n"
    ++ codes "leak ann door enter 4 102\nby handover ann bob\nby turn bob door\nby pass ann door\n"
    ++ codes "never door ann lend 4 108\n"
