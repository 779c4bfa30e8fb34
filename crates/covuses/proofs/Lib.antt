mod StandsStill
mod Counted
mod FirstBytes
