mod Occurring
mod LowestSlot
mod Filled
mod FillTurns
mod Moves
