-- Words and their fields.
use Rattle.std.proofs.Common.{◌≡◌, ℕ, ◌/◌, ◌%◌, ◌^◌, ◌<◌, ltb, Some, None, Option, IfSome, sym, refl, ap, subst, ◌∙◌, arith}
use Rattle.std.proofs.lemmas.Bool.{lt-ltb, cond-true}
use Rattle.instruction.specs.declared.operation.Operation.{Operation}
use Rattle.instruction.specs.declared.operation.Operation.TheVariants.{Add, Sub, And, Xor, Shl, Less}
use Rattle.instruction.specs.declared.instruction.Instruction.{Instruction}
use Rattle.instruction.specs.declared.instruction.Instruction.TheVariants.{Halt, Const, Move, Compute, Load, Store, Jump, Branch, Call, Ret, Out}
use Rattle.rulebook.specs.Group.{number_of}
use Rattle.instruction.specs.Instruction.{encoded, operation_group, packed, low, Fits}
use Rattle.instruction.specs.Decode.{decoded, of_fields, only, Decodes}

-- a word is made of its fields
pub fields_of : (word : ℕ) → packed (word / 2 ^ 24) (word / 2 ^ 20 % 16) (word / 2 ^ 16 % 16) (word % 2 ^ 16) ≡ word
fields_of word = omega arith

module _ (op d s k : ℕ) (p : d < 16) (q : s < 16) (r : k < 2 ^ 16) where
  op_of : packed op d s k / 2 ^ 24 ≡ op
  op_of = omega arith

  d_of : packed op d s k / 2 ^ 20 % 16 ≡ d
  d_of = omega arith

  s_of : packed op d s k / 2 ^ 16 % 16 ≡ s
  s_of = omega arith

  k_of : packed op d s k % 2 ^ 16 ≡ k
  k_of = omega arith

  -- and gives them back
  unpack : decoded (packed op d s k) ≡ of_fields op d s k
  unfolding decoded
  unpack =
      let o = op_of in
      let x = d_of in
      let y = s_of in
      let z = k_of in
      cc

low_fits : (k : ℕ) → low k < 2 ^ 16
low_fits k = omega arith

named : (t : ℕ) (i : Instruction) → t < 16 → only (ltb t 16) i ≡ Some i
named t i h = cond-true (ltb t 16) (Some i) None (lt-ltb t 16 h)

by_operation : (op : Operation) (d s t : ℕ) → of_fields (number_of (operation_group op)) d s t ≡ only (ltb t 16) (Compute op d s t)
by_operation Add d s t = refl
by_operation Sub d s t = refl
by_operation And d s t = refl
by_operation Xor d s t = refl
by_operation Shl d s t = refl
by_operation Less d s t = refl

-- every instruction that fits is what its word says
decodes : (i : Instruction) → Fits i → decoded (encoded i) ≡ Some i
decodes Halt h = unpack 0 0 0 0 (omega arith) (omega arith) (omega arith)
decodes (Const d k) (p, e) = unpack 1 d 0 (low k) p (omega arith) (low_fits k) ∙ ap (λ z. Some (Const d z)) (sym e)
decodes (Move d s) (p, q) = unpack 2 d s 0 p q (omega arith)
decodes (Compute op d s t) (p, q, r) = unpack _ d s t p q (omega arith) ∙ by_operation op d s t ∙ named t (Compute op d s t) r
decodes (Load d s k) (p, q, e) = unpack 9 d s (low k) p q (low_fits k) ∙ ap (λ z. Some (Load d s z)) (sym e)
decodes (Store d s k) (p, q, e) = unpack 10 d s (low k) p q (low_fits k) ∙ ap (λ z. Some (Store d s z)) (sym e)
decodes (Jump s) q = unpack 11 0 s 0 (omega arith) q (omega arith)
decodes (Branch s k) (q, e) = unpack 12 0 s (low k) (omega arith) q (low_fits k) ∙ ap (λ z. Some (Branch s z)) (sym e)
decodes (Call d k) (p, e) = unpack 13 d 0 (low k) p (omega arith) (low_fits k) ∙ ap (λ z. Some (Call d z)) (sym e)
decodes (Ret s) q = unpack 14 0 s 0 (omega arith) q (omega arith)
decodes (Out s) q = unpack 15 0 s 0 (omega arith) q (omega arith)

pub reads_back : (word : ℕ) (answer : Option Instruction) → answer ≡ decoded word
    → (i : Instruction) → Fits i → encoded i ≡ word → answer ≡ Some i
reads_back word answer a i f e = a ∙ ap decoded (sym e) ∙ decodes i f

-- what the fields of a word say is lawful
pub lawful_of : (word : ℕ) (answer : Option Instruction)
    → answer ≡ of_fields (word / 2 ^ 24) (word / 2 ^ 20 % 16) (word / 2 ^ 16 % 16) (word % 2 ^ 16)
    → IfSome answer (λ i. Fits i × (encoded i ≡ packed (word / 2 ^ 24) (word / 2 ^ 20 % 16) (word / 2 ^ 16 % 16) (word % 2 ^ 16)))
    → Decodes word answer
unfolding decoded
lawful_of word answer a e = record {
  encodes = subst (λ z. IfSome answer (λ i. Fits i × (encoded i ≡ z))) (fields_of word) e;
  reads_back = reads_back word answer a;
}
