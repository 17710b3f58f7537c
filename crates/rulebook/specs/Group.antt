-- The number of each group.
use Rattle.std.specs.Prelude.{◌≡◌, ℕ, ◌<◌, Bool, Result, MatchResult, ◌==◌}
use Rattle.rulebook.specs.declared.group.Group.{Group}
use Rattle.rulebook.specs.declared.group.UnknownGroup.{UnknownGroup}
use Rattle.rulebook.specs.declared.group.Group.TheVariants.{Halt, Const, Move, Add, Sub, And, Xor, Shl, Less, Load, Store, Jump, Branch, Call, Ret, Out, Fetch, Post}

abbrev pub number_of : Group → ℕ
number_of Halt = 0
number_of Const = 1
number_of Move = 2
number_of Add = 3
number_of Sub = 4
number_of And = 5
number_of Xor = 6
number_of Shl = 7
number_of Less = 8
number_of Load = 9
number_of Store = 10
number_of Jump = 11
number_of Branch = 12
number_of Call = 13
number_of Ret = 14
number_of Out = 15
number_of Fetch = 16
number_of Post = 17

-- the group of a number, which none has above 17
abbrev pub GroupOf : ℕ → Result Group UnknownGroup → Type 0
GroupOf number r = MatchResult r (λ group. number_of group ≡ number) (λ unknown. (17 < number) × (unknown.0 ≡ number))

abbrev pub is_post : Group → Bool
is_post g = number_of g == number_of Post
