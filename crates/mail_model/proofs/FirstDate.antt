-- The first second of 1970 has a date.
use Rattle.std.proofs.Common.{arith, refl, codes}
use Rattle.httpdate.specs.Calendar.{days_of_years, days_of_months}
use Rattle.mail_model.specs.Mail.{IsDate}

pub first_date : IsDate 0 (codes "Thu, 01 Jan 1970 00:00:00 +0000")
unfolding days_of_years days_of_months
first_date = (
  record {
    parts = record { year = 1970; mon = 1; day = 1; hour = 0; min = 0; sec = 0; wday = 4 };
    civil = ((omega arith, omega arith), (omega arith, omega arith), (omega arith, omega arith));
    time = (omega arith, omega arith, omega arith);
    right_day = refl;
  },
  refl,
  refl,
)
