-- Codes of few digits.
use Rattle.std.proofs.Common.{ℕ, ◌+◌, ◌*◌, ◌^◌, ◌<◌, ◌≤◌, lit<, arith}
use Rattle.std.proofs.Math.Nat.{pow-le-pow_right}

-- one digit more makes no code too large
pub room_for_digit : (count code digit : ℕ) → count < 6 → code < 16 ^ count → digit ≤ 15 → 16 * code + digit < 2 ^ 32
room_for_digit count code digit few small low =
    let at_most_5 : count ≤ 5 = omega arith in
    let most : 16 ^ count ≤ 16 ^ 5 = pow-le-pow_right (lit< tt) at_most_5 in
    omega arith
