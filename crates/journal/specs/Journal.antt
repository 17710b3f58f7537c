-- What a journal holds, and what an append makes of it.
use Rattle.std.specs.Prelude.{ℕ, Bool, cond, List, [], ◌∷◌, ◌++◌, length, take, drop, Ok, Err, Result, ◌==◌}
use Rattle.std.specs.Borrow.{GName}
use Rattle.refusal.specs.declared.refusal.Refusal.{Refusal}
use Rattle.refusal.specs.declared.refusal.Refusal.TheVariants.{JournalFull}
use Rattle.journal.specs.declared.journal.Journal.{Journal}

-- the whole lent list, and how many of its first places are used
abbrev pub slots_of : {T : Type 0} → Journal T → List T
slots_of journal = journal.slots.now

abbrev pub count_of : {T : Type 0} → Journal T → ℕ
count_of journal = journal.used

-- what was appended, in order
abbrev pub elements : {T : Type 0} → Journal T → List T
elements journal = take (count_of journal) (slots_of journal)

-- what the free places hold
abbrev pub room : {T : Type 0} → Journal T → List T
room journal = drop (count_of journal) (slots_of journal)

abbrev pub free : {T : Type 0} → Journal T → ℕ
free journal = length (room journal)

abbrev pub full : {T : Type 0} → Journal T → Bool
full journal = free journal == 0

-- where an element offered now comes to stand, or that it is refused
abbrev pub next_place : {T : Type 0} → Journal T → Result ℕ Refusal
next_place journal = cond (full journal) (Err JournalFull) (Ok (length (elements journal)))

-- what has been appended once an element was offered
abbrev pub appended : {T : Type 0} → Journal T → T → List T
appended journal element = cond (full journal) (elements journal) (elements journal ++ element ∷ [])

-- which slice was lent: at the journal's end that slice holds the elements and then the room
abbrev pub loan : {T : Type 0} → Journal T → GName
loan journal = journal.slots.ghost_name
