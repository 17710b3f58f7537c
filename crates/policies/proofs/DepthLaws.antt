-- Depth Isolation obeys its laws.
use Rattle.std.proofs.Common.{◌≡◌, ℕ, ◌+◌, ◌≤◌, IfOk, Ok, Err, ◌⊎◌, sym, ap, subst, rules}
use Rattle.rulebook.specs.declared.group.Group.{Group}
use Rattle.rulebook.specs.declared.group.Group.TheVariants as group
use Rattle.rulebook.specs.declared.question.Question.{Question}
use Rattle.rulebook.specs.declared.answer.Tags.{Tags}
use Rattle.rulebook.proofs.Questions.{same_true}
use Rattle.policies.specs.declared.depth_isolation.tags.CellTag.TheVariants as cell
use Rattle.policies.specs.declared.depth_isolation.tags.RegisterTag.TheVariants.{Link}
use Rattle.policies.specs.DepthTag.{cell_number, register_number}
use Rattle.rulebook.specs.Answer.{by_number}
use Rattle.policies.specs.DepthIsolation.{Ruling, deepest, on_group, depth_isolation}
use Rattle.policies.specs.DepthViolation.{violation_number}
use Rattle.policies.specs.DepthLaw.{PlainOrOwn, Leaves, IsCode, DepthMoves, LinkComesFrom, Lawful}

-- what holds of allowed tags holds of them where a violation is its number
numbered : (P : Tags → Type 0) (r : Ruling) → IfOk r P → IfOk (by_number violation_number r) P
numbered P (Ok tags) h = h
numbered P (Err violation) h = h

-- a law of one group is shown with the group put in
module _ (q : Question) (P : Tags → Type 0) where
  pub at_group : (g : Group) → IfOk (on_group q g) P → q.group ≡ g → IfOk (depth_isolation q) P
  at_group g h e = numbered P (on_group q q.group) (subst (λ k. IfOk (on_group q k) P) (sym e) h)

module _ (q : Question) where
  loads_own : IfOk (on_group q group.Load) (λ _. PlainOrOwn q.pc q.m)
  loads_own = search rules

  stores_own : IfOk (on_group q group.Store) (λ _. (q.m ≡ cell_number cell.Empty) ⊎ PlainOrOwn q.pc q.m)
  stores_own = search rules

  leaves_own : IfOk (on_group q group.Store) (λ t. Leaves q.pc q.m t.r)
  leaves_own = search rules

  posts_plain : IfOk (on_group q group.Post) (λ t. (q.m ≡ cell_number cell.Plain) × (t.r ≡ cell_number cell.Plain))
  posts_plain = search rules

  calls_link : IfOk (on_group q group.Call) (λ t. (t.pc ≡ q.pc + 1) × (t.r ≡ register_number (Link q.pc)))
  calls_link = search rules

  returns_by_link : IfOk (on_group q group.Ret) (λ t. (q.a ≡ register_number (Link t.pc)) × (q.pc ≡ t.pc + 1))
  returns_by_link = search rules

  runs_code : (g : Group) → (g ≡ group.Post → ⊥) → IfOk (on_group q g) (λ _. IsCode q.ci)
  runs_code g n = search rules

  depth_moves : (g : Group) → IfOk (on_group q g) (λ t. (t.pc ≤ deepest) × DepthMoves g q.pc t.pc)
  depth_moves g = search rules

  links_made : (g : Group) (c : ℕ) → c ≤ deepest → IfOk (on_group q g) (λ t. t.r ≡ register_number (Link c) → LinkComesFrom g q c)
  links_made g c h = search rules

  pub lawful : Lawful q (depth_isolation q)
  lawful = record {
    by_numbers = λ p s. ap depth_isolation (same_true p q s);
    runs_code = λ n. numbered _ (on_group q q.group) (runs_code q.group n);
    loads_own = at_group q _ group.Load loads_own;
    stores_own = at_group q _ group.Store stores_own;
    leaves_own = at_group q _ group.Store leaves_own;
    posts_plain = at_group q _ group.Post posts_plain;
    calls_link = at_group q _ group.Call calls_link;
    returns_by_link = at_group q _ group.Ret returns_by_link;
    depth_moves = numbered _ (on_group q q.group) (depth_moves q.group);
    links_made = λ c h. numbered _ (on_group q q.group) (links_made q.group c h);
  }
