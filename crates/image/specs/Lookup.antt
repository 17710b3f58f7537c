-- Looking up a name.
use Rattle.std.specs.Prelude.{ℕ, ◌+◌, cond, List, length, take, drop, Some, None, Option, ◌==◌, nat_le}
use Rattle.std.specs.List.{find}
use Rattle.image.specs.declared.name.Name.{Name}

-- the first name at an address
abbrev pub first_at : ℕ → List Name → Option Name
first_at address names = find (λ name. name.address == address) names

-- the part of an image that a name marks, if it is there
abbrev pub text_in : List ℕ → Name → Option (List ℕ)
text_in image name = cond (nat_le (name.place + name.length) (length image)) (Some (take name.length (drop name.place image))) None

abbrev pub text_of : List ℕ → Option Name → Option (List ℕ)
text_of image None = None
text_of image (Some name) = text_in image name
