-- What a player is once the bytes that it lent are given back.
use Rattle.std.specs.Prelude.{◌≡◌, ◌+◌, ℕ, []}
use Rattle.std.specs.Borrow.{Fml, MutBor}
use Rattle.std.specs.Io.BufRead.{Rests}
use mir.Syntax.{named}
use Rattle.iamf_play.specs.Playback.{PlayerValue}
use Rattle.iamf_play.specs.contracts.player.Player.{the_row}

-- the plan is the same, and unit u was played
abbrev pub EndsPlayed : MutBor PlayerValue → ℕ → Fml
EndsPlayed player u = Rests (the_row (record { mir = named 0; lft = [] }) (record { mir = named 1; lft = [] })) player (λ v. v ≡ record { plan = player.now.plan; played = u + 1 })
