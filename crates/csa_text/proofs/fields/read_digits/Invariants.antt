use Rattle.std.proofs.Common.{◌≡◌, ◌≤◌, take}
use Rattle.std.specs.Str.Parse.{AllDigits, digits_value}
use Rattle.csa_text.proofs.fields.read_digits.Given as goal

abbrev pub invariant-loop-b : goal.invariant-loop-b
invariant-loop-b l = record {
  digits : AllDigits 10 (take l.b-index l.bytes);
  limit : l.value ≤ 4294967295;
  value : l.value ≡ digits_value 10 (take l.b-index l.bytes);
}
