-- The violations of Depth Isolation and their numbers.
use Rattle.std.specs.Prelude.{ℕ}
use Rattle.policies.specs.declared.depth_isolation.violation.DepthViolation.{DepthViolation}
use Rattle.policies.specs.declared.depth_isolation.violation.DepthViolation.TheVariants.{NoDepth, NotCode, UnknownTag, ForeignCell, EmptyCell, CodeCell, StrayLink, NotEmpty, TooDeep, NoReturn}

abbrev pub violation_number : DepthViolation → ℕ
violation_number NoDepth = 1
violation_number NotCode = 2
violation_number UnknownTag = 3
violation_number ForeignCell = 4
violation_number EmptyCell = 5
violation_number CodeCell = 6
violation_number StrayLink = 7
violation_number NotEmpty = 8
violation_number TooDeep = 9
violation_number NoReturn = 10
