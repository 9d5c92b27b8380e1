mod Answered
mod Costs
mod Fulfilled
mod Memory
mod Results
mod Rooms
mod Split
mod Taken
