-- What a cache remembers, as a list of entries, the oldest first.
use Rattle.std.specs.Prelude.{ℕ, Bool, true, false, not, find, ◌&&◌, List, [], ◌∷◌, ◌++◌, length, is_some, Some, None, Ok, Err, Option, nat_lt}
use Rattle.rulebook.specs.declared.entry.Entry.{Entry}
use Rattle.rulebook.specs.declared.question.Question.{Question}
use Rattle.rulebook.specs.Answer.{Answer}
use Rattle.rulebook.specs.Question.{same}

-- the entry of a question
abbrev pub recall : List Entry → Question → Option Entry
recall entries q = find (λ entry. same entry.question q) entries

-- no question has two entries
abbrev pub distinct : List Entry → Bool
distinct [] = true
distinct (entry ∷ entries) = not (is_some (recall entries entry.question)) && distinct entries

abbrev pub capacity : ℕ
capacity = 64

abbrev pub if_room : Bool → List Entry → Entry → List Entry
if_room true entries entry = entries ++ entry ∷ []
if_room false entries entry = entries

-- one entry more, at the end, where there is room
abbrev pub with_room : List Entry → Entry → List Entry
with_room entries entry = if_room (nat_lt (length entries) capacity) entries entry

abbrev pub if_new : Option Entry → List Entry → Entry → List Entry
if_new (Some found) entries entry = entries
if_new None entries entry = with_room entries entry

-- what is remembered once a question was answered
abbrev pub taught : List Entry → Question → Answer → List Entry
taught entries q (Ok tags) = if_new (recall entries q) entries (record { question = q; tags = tags })
taught entries q (Err denial) = entries

abbrev pub if_recalled : Option Entry → Answer → Answer
if_recalled (Some entry) below = Ok entry.tags
if_recalled None below = below

-- what is remembered, else what stands below
abbrev pub cached : List Entry → (Question → Answer) → Question → Answer
cached entries below q = if_recalled (recall entries q) (below q)
