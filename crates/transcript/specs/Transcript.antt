-- Questions and answers as lines of text.
use Rattle.std.specs.Prelude.{◌≡◌, ℕ, List, [], ◌∷◌, ◌++◌, Some, Ok, Err, codes, decimal}
use Rattle.rulebook.specs.declared.question.Question.{Question}
use Rattle.rulebook.specs.Answer.{Answer, half_number}
use Rattle.rulebook.specs.Group.{number_of}
use Rattle.transcript.specs.Line.{line_numbers}

-- the six numbers of a question, as a line has them
abbrev pub numbers_of : Question → List ℕ
numbers_of q = number_of q.group ∷ q.pc ∷ q.ci ∷ q.a ∷ q.b ∷ q.m ∷ []

-- the line holds the six numbers of this question
abbrev pub IsQuestion : List ℕ → Question → Type 0
IsQuestion line q = line_numbers line ≡ Some (numbers_of q)

-- the line of an answer
abbrev pub answer_text : Answer → List ℕ
answer_text (Ok tags) = codes "allowed " ++ (decimal tags.pc ++ (codes " " ++ decimal tags.r))
answer_text (Err denial) = codes "denied " ++ (decimal (half_number denial.half) ++ (codes " " ++ decimal denial.violation))
