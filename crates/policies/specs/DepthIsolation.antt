-- Depth Isolation: what each group may do at depth e, by the tags of its cells and registers.
use Rattle.std.specs.Prelude.{ℕ, ◌+◌, ◌-◌, cond, is_some, Some, None, Ok, Err, Option, Result, ◌==◌, nat_lt}
use Rattle.rulebook.specs.declared.answer.Tags.{Tags}
use Rattle.rulebook.specs.declared.group.Group.{Group}
use Rattle.rulebook.specs.declared.group.Group.TheVariants as group
use Rattle.rulebook.specs.declared.question.Question.{Question}
use Rattle.rulebook.specs.Answer.{NarrowAnswer, allowed, by_number}
use Rattle.rulebook.specs.Group.{is_post}
use Rattle.policies.specs.declared.depth_isolation.rules.Target.{Target}
use Rattle.policies.specs.declared.depth_isolation.rules.Target.TheVariants as own
use Rattle.policies.specs.declared.depth_isolation.tags.Code.{Code}
use Rattle.policies.specs.declared.depth_isolation.tags.Code.TheVariants.{Ordinary, Claiming, Clearing}
use Rattle.policies.specs.declared.depth_isolation.tags.CellTag.{CellTag}
use Rattle.policies.specs.declared.depth_isolation.tags.CellTag.TheVariants as cell
use Rattle.policies.specs.declared.depth_isolation.tags.RegisterTag.{RegisterTag}
use Rattle.policies.specs.declared.depth_isolation.tags.RegisterTag.TheVariants.{Data, Link}
use Rattle.policies.specs.declared.depth_isolation.violation.DepthViolation.{DepthViolation}
use Rattle.policies.specs.declared.depth_isolation.violation.DepthViolation.TheVariants.{NoDepth, NotCode, UnknownTag, ForeignCell, EmptyCell, CodeCell, StrayLink, NotEmpty, TooDeep, NoReturn}
use Rattle.policies.specs.DepthViolation.{violation_number}
use Rattle.policies.specs.DepthTag.{code_tag, cell_tag, cell_number, register_tag, register_number}

-- what the rules say of a question: the tags that they allow, or why not
abbrev pub Ruling : Type 0
Ruling = Result Tags DepthViolation

-- the deepest depth
abbrev pub deepest : ℕ
deepest = 255

abbrev pub on_move : ℕ → ℕ → Ruling
on_move e a = cond (is_some (register_tag a)) (allowed e a) (Err UnknownTag)

-- what may be reached at depth e: a plain cell or one of its own frame; else why not
abbrev pub reach : ℕ → Option CellTag → Result Target DepthViolation
reach e (Some cell.Plain) = Ok own.Plain
reach e (Some (cell.Frame d)) = cond (d == e) (Ok own.Frame) (Err ForeignCell)
reach e (Some (cell.SavedLink d)) = cond (d == e) (Ok own.SavedLink) (Err ForeignCell)
reach e (Some cell.Empty) = Err EmptyCell
reach e (Some (cell.Code code)) = Err CodeCell
reach e None = Err UnknownTag

abbrev pub on_load : ℕ → Result Target DepthViolation → Ruling
on_load e (Ok own.Plain) = allowed e 0
on_load e (Ok own.Frame) = allowed e 0
on_load e (Ok own.SavedLink) = allowed e (register_number (Link (e - 1)))
on_load e (Err violation) = Err violation

-- what a register leaves in a plain cell, and in a cell of this depth's frame: the link that leads
-- back from depth e was made at e - 1, and may be kept in its frame alone
abbrev pub plain_store : ℕ → RegisterTag → Ruling
plain_store e Data = allowed e (cell_number cell.Plain)
plain_store e (Link c) = Err StrayLink

abbrev pub frame_store : ℕ → RegisterTag → Ruling
frame_store e Data = allowed e (cell_number (cell.Frame e))
frame_store e (Link c) = cond (c + 1 == e) (allowed e (cell_number (cell.SavedLink e))) (Err StrayLink)

abbrev pub ordinary_store : ℕ → RegisterTag → Result Target DepthViolation → Ruling
ordinary_store e a (Ok own.Plain) = plain_store e a
ordinary_store e a (Ok own.Frame) = frame_store e a
ordinary_store e a (Ok own.SavedLink) = frame_store e a
ordinary_store e a (Err violation) = Err violation

-- an empty cell becomes one of this depth's frame
abbrev pub claiming_store : ℕ → RegisterTag → ℕ → Ruling
claiming_store e a m = cond (m == cell_number cell.Empty) (frame_store e a) (Err NotEmpty)

-- a cell of this depth's frame becomes empty
abbrev pub clearing_store : ℕ → Result Target DepthViolation → Ruling
clearing_store e (Ok own.Frame) = allowed e (cell_number cell.Empty)
clearing_store e (Ok own.SavedLink) = allowed e (cell_number cell.Empty)
clearing_store e (Ok own.Plain) = Err ForeignCell
clearing_store e (Err violation) = Err ForeignCell

abbrev pub on_store : ℕ → Code → Option RegisterTag → ℕ → Ruling
on_store e code None m = Err UnknownTag
on_store e Ordinary (Some a) m = ordinary_store e a (reach e (cell_tag m))
on_store e Claiming (Some a) m = claiming_store e a m
on_store e Clearing (Some a) m = clearing_store e (reach e (cell_tag m))

abbrev pub on_call : ℕ → Ruling
on_call e = cond (nat_lt e deepest) (allowed (e + 1) (register_number (Link e))) (Err TooDeep)

abbrev pub on_ret : ℕ → Option RegisterTag → Ruling
on_ret e (Some (Link c)) = cond (c + 1 == e) (allowed c 0) (Err NoReturn)
on_ret e (Some Data) = Err NoReturn
on_ret e None = Err NoReturn

abbrev pub on_post : ℕ → ℕ → Ruling
on_post e m = cond (m == cell_number cell.Plain) (allowed e 0) (Err ForeignCell)

module _ (q : Question) where
  -- an op, or a fetch, from a cell of this kind of code; POST has no such cell and does not come here
  abbrev pub on_op : Code → Group → Ruling
  on_op code group.Halt = allowed q.pc 0
  on_op code group.Const = allowed q.pc 0
  on_op code group.Move = on_move q.pc q.a
  on_op code group.Add = allowed q.pc 0
  on_op code group.Sub = allowed q.pc 0
  on_op code group.And = allowed q.pc 0
  on_op code group.Xor = allowed q.pc 0
  on_op code group.Shl = allowed q.pc 0
  on_op code group.Less = allowed q.pc 0
  on_op code group.Load = on_load q.pc (reach q.pc (cell_tag q.m))
  on_op code group.Store = on_store q.pc code (register_tag q.a) q.m
  on_op code group.Jump = allowed q.pc 0
  on_op code group.Branch = allowed q.pc 0
  on_op code group.Call = on_call q.pc
  on_op code group.Ret = on_ret q.pc (register_tag q.a)
  on_op code group.Out = allowed q.pc 0
  on_op code group.Fetch = allowed q.pc 0
  on_op code group.Post = allowed q.pc 0

  abbrev pub from_code : Option Code → Group → Ruling
  from_code (Some code) g = on_op code g
  from_code None g = Err NotCode

  abbrev pub on_group : Group → Ruling
  on_group g =
      cond (nat_lt deepest q.pc) (Err NoDepth)
      (cond (is_post g) (on_post q.pc q.m) (from_code (code_tag q.ci) g))

abbrev pub ruling : Question → Ruling
ruling q = on_group q q.group

-- and what it answers, with the violation by its number
abbrev pub depth_isolation : Question → NarrowAnswer
depth_isolation q = by_number violation_number (ruling q)
