-- Numbers of one digit in decimal.
use Rattle.std.proofs.Common.{◌≡◌, arith, codes}
use Rattle.std.specs.Fmt.{decimal}
use Rattle.std.proofs.lemmas.Fmt.{decimal_digit}

pub digit_one : decimal 1 ≡ codes "1"
digit_one = decimal_digit 1 (omega arith)

pub digit_two : decimal 2 ≡ codes "2"
digit_two = decimal_digit 2 (omega arith)

pub digit_three : decimal 3 ≡ codes "3"
digit_three = decimal_digit 3 (omega arith)

pub digit_four : decimal 4 ≡ codes "4"
digit_four = decimal_digit 4 (omega arith)

pub digit_five : decimal 5 ≡ codes "5"
digit_five = decimal_digit 5 (omega arith)
