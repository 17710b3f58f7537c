-- What Depth Isolation is for: laws that every answer obeys, whatever is asked.
use Rattle.std.specs.Prelude.{◌≡◌, ℕ, ◌+◌, ◌≤◌, true, IfOk, ◌⊎◌, ◌≢◌}
use Rattle.rulebook.specs.declared.group.Group.{Group}
use Rattle.rulebook.specs.declared.group.Group.TheVariants.{Move, Load, Store, Call, Ret, Post}
use Rattle.rulebook.specs.declared.question.Question.{Question}
use Rattle.rulebook.specs.Answer.{NarrowAnswer}
use Rattle.rulebook.specs.Question.{same}
use Rattle.policies.specs.declared.depth_isolation.tags.Code.TheVariants.{Ordinary, Claiming, Clearing}
use Rattle.policies.specs.declared.depth_isolation.tags.CellTag.TheVariants.{Plain, Empty, Frame, SavedLink}
use Rattle.policies.specs.declared.depth_isolation.tags.RegisterTag.TheVariants.{Link}
use Rattle.policies.specs.DepthTag.{code_number, cell_number, register_number}
use Rattle.policies.specs.DepthIsolation.{deepest, depth_isolation}

-- the tag of a cell in the frame of depth e
abbrev pub OwnFrame : ℕ → ℕ → Type 0
OwnFrame e m = (m ≡ cell_number (Frame e)) ⊎ (m ≡ cell_number (SavedLink e))

-- the tag of a plain cell or of one in the frame of depth e
abbrev pub PlainOrOwn : ℕ → ℕ → Type 0
PlainOrOwn e m = (m ≡ cell_number Plain) ⊎ OwnFrame e m

-- the tag r that a store at depth e leaves in a cell of tag m
abbrev pub Leaves : ℕ → ℕ → ℕ → Type 0
Leaves e m r =
    ((m ≡ cell_number Plain) × (r ≡ cell_number Plain))
    ⊎ ((m ≢ cell_number Plain) × ((r ≡ cell_number Empty) ⊎ OwnFrame e r))

-- the tag of some cell of code
abbrev pub IsCode : ℕ → Type 0
IsCode ci = (ci ≡ code_number Ordinary) ⊎ ((ci ≡ code_number Claiming) ⊎ (ci ≡ code_number Clearing))

-- how the depth goes from e to e': down by a call, up by a return, else not at all
abbrev pub DepthMoves : Group → ℕ → ℕ → Type 0
DepthMoves g e e' = (e' ≡ e) ⊎ (((g ≡ Call) × (e' ≡ e + 1)) ⊎ ((g ≡ Ret) × (e ≡ e' + 1)))

-- where a link made at depth c comes from: a call at c, a register that holds it, or the frame that it was saved in
abbrev pub LinkComesFrom : Group → Question → ℕ → Type 0
LinkComesFrom g q c =
    ((g ≡ Call) × (q.pc ≡ c))
    ⊎ (((g ≡ Move) × (q.a ≡ register_number (Link c)))
    ⊎ ((g ≡ Load) × (q.pc ≡ c + 1) × (q.m ≡ cell_number (SavedLink (c + 1)))))

pub record Lawful (q : Question) (answer : NarrowAnswer) : Type 0 where
  -- nothing but the six numbers of a question counts
  pub by_numbers : (p : Question) → same p q ≡ true → depth_isolation p ≡ answer
  -- all but POST is asked from a cell of code
  pub runs_code : (q.group ≢ Post) → IfOk answer (λ _. IsCode q.ci)
  -- a load reaches a plain cell or one of its own frame
  pub loads_own : q.group ≡ Load → IfOk answer (λ _. PlainOrOwn q.pc q.m)
  -- a store reaches a plain cell, an empty one or one of its own frame: never code, never another's frame
  pub stores_own : q.group ≡ Store → IfOk answer (λ _. (q.m ≡ cell_number Empty) ⊎ PlainOrOwn q.pc q.m)
  -- a plain cell that is stored to stays plain, and any other is then empty or of its own frame
  pub leaves_own : q.group ≡ Store → IfOk answer (λ t. Leaves q.pc q.m t.r)
  -- a post reaches a plain cell and leaves it plain
  pub posts_plain : q.group ≡ Post → IfOk answer (λ t. (q.m ≡ cell_number Plain) × (t.r ≡ cell_number Plain))
  -- a call goes one deeper, and makes the link of the depth that it leaves
  pub calls_link : q.group ≡ Call → IfOk answer (λ t. (t.pc ≡ q.pc + 1) × (t.r ≡ register_number (Link q.pc)))
  -- a return presents the link that was made at the depth returned to
  pub returns_by_link : q.group ≡ Ret → IfOk answer (λ t. (q.a ≡ register_number (Link t.pc)) × (q.pc ≡ t.pc + 1))
  -- the new pc tag is a depth, at most one away from the old
  pub depth_moves : IfOk answer (λ t. (t.pc ≤ deepest) × DepthMoves q.group q.pc t.pc)
  -- nothing forges a link
  pub links_made : (c : ℕ) → c ≤ deepest → IfOk answer (λ t. t.r ≡ register_number (Link c) → LinkComesFrom q.group q c)
