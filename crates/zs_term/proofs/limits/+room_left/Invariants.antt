use Rattle.zs_term.proofs.limits.+room_left.Given as goal

abbrev pub decreases-room_left : goal.decreases-room_left
decreases-room_left l = l.levels
