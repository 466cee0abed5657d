use Rattle.ft_report.proofs.rendering.write_line.Goals as goal

-- what the monitor is answered is its line, as it stands
pub returns-in-Pong : goal.returns-in-Pong
returns-in-Pong c = rw c.in-Pong.is c.monitor_line-in-Pong.ensures
